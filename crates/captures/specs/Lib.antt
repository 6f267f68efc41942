pub mod Form
pub mod Writing
pub mod Reading
pub mod PrivateReading
pub mod HandedBack
pub mod Claims
