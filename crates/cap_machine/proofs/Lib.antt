pub mod AccountLemmas
pub mod StepLemmas
pub mod AuthorityLemmas
pub mod AccessLemmas
mod GranuleLemmas
pub mod LabelLemmas
mod StateLemmas
mod CodeLemmas
mod RootLemmas
pub mod MadeLemmas
mod SoundLemmas
pub mod EscapeLemmas
pub mod OriginLemmas
