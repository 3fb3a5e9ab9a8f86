pub mod LineLemmas
pub mod DescentLemmas
pub mod OneRootLemmas
pub mod ChoiceLemmas
mod MeetingLemmas
pub mod OwnedLemmas
mod FollowLemmas
mod HolderLemmas
mod PassLemmas
mod PresentLemmas
mod ExtentLemmas
pub mod ApartLemmas
mod NotHeldLemmas
mod StillHeldLemmas
pub mod ErasureLemmas
pub mod UsualRunLemmas
mod PlaceLemmas
mod HartLemmas
mod SwitchLemmas
mod OwnerLemmas
mod ObjectLemmas
mod ObjectEnds
mod HandingLemmas
mod SafetyLemmas
mod FillLemmas
mod WideningLemmas
mod UsualLemmas
mod IndexedLemmas
mod MeetLemmas
mod ChangeLemmas
mod ObjectNumberLemmas
mod NumberLemmas
mod EndLemmas
mod AnswerLemmas
mod RunNumberLemmas
mod HartRunLemmas
mod GranuleLemmas
mod RootLemmas
mod UsualNumberLemmas
mod AskedLemmas
mod AloneLemmas
mod StepLineLemmas
mod ToldLemmas
mod DerivationLemmas
pub mod StepTakingLemmas
