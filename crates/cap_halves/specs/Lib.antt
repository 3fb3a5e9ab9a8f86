pub mod Passed
pub mod PassedLines
pub mod PassedRuns
pub mod PassedSteps
