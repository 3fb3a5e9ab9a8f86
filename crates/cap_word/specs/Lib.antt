pub mod Fields
pub mod Memory
pub mod Word
pub mod Digits
