pub mod Layouts
pub mod Rows
pub mod Reading
pub mod Access
pub mod PrivateRows
pub mod Claims
