pub mod Turns
pub mod Verdicts
pub mod Readings
