pub mod TextLines
pub mod WrongLines
pub mod ExplainLines
pub mod Fields
pub mod ShownBytes
pub mod CapLines
