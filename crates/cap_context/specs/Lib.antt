pub mod Registers
pub mod Contexts
pub mod Writers
pub mod Keepings
pub mod KeptContexts
pub mod Recordings
pub mod Readings
