pub mod Words
pub mod Rows
pub mod Readings
pub mod Members
pub mod Objects
