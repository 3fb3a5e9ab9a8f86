pub mod HandleFields
pub mod HandleLemmas
pub mod HeldFields
mod HeapLemmas
mod HoldingLemmas
mod RunStepLemmas
mod RunTakingLemmas
mod TakingLemmas
