pub mod Cuts
mod Decimals
pub mod DecidedLines
pub mod ElementLemmas
mod FewLemmas
mod FourDigits
mod OffsetLemmas
pub mod OperandLemmas
pub mod PartLemmas
mod RegisterLemmas
mod ResultLemmas
pub mod Searches
pub mod Shapes
mod SizedLemmas
pub mod SpellingLemmas
mod TakeLemmas
mod WriteLemmas
