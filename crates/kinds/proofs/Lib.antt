pub mod Apart
pub mod Claims
pub mod Laws
pub mod RoundTrip
