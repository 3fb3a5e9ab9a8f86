pub mod Orders
pub mod Operands
pub mod Answers
pub mod Doings
