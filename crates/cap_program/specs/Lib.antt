pub mod Faults
pub mod Words
pub mod Doings
pub mod Runs
pub mod Commands
pub mod Judging
