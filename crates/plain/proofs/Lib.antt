pub mod Signed
pub mod Found
pub mod Searched
