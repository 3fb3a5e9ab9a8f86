pub mod GuardLemmas
pub mod TurnLemmas
pub mod CountLemmas
pub mod EndLemmas
pub mod FollowLemmas
mod ErasedLogs
mod ChosenVerdicts
mod SourceLemmas
mod TextLemmas
pub mod OneVerdict
mod OwnerLemmas
mod UsualLogLemmas
pub mod RunReportLemmas
pub mod QuestionLemmas
