pub mod Claims
pub mod Copying
pub mod Heading
pub mod Reading
pub mod RoundTrip
pub mod Writing
pub mod Shortfall
