mod LogLemmas
pub mod JudgeLemmas
mod VersionLemmas
pub mod EscapeLaws
pub mod SourceLemmas
pub mod OneVerdict
pub mod FaultPlaces
pub mod OriginLemmas
pub mod ReportLemmas
pub mod InTurn
pub mod ExpectedLemmas
pub mod TurnLemmas
pub mod TurnLaws
