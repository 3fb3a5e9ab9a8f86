pub mod DecidedRunLines
mod ExchangeLemmas
mod OperandLemmas
mod PartLemmas
mod ResultLemmas
mod Rows
mod SmallLemmas
pub mod Spellings
pub mod UsualLineLemmas
