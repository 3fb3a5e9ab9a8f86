pub mod Answers
pub mod LinesRead
pub mod LinesWritten
pub mod Names
pub mod RunLinesRead
pub mod RunLinesWritten
pub mod WordFields
