pub mod Bounds
pub mod Range
pub mod Rounding
pub mod SailDecoding
pub mod SailRounding
