pub mod Heads
pub mod Lines
pub mod Parts
pub mod Ranges
pub mod SpacelessLaws
