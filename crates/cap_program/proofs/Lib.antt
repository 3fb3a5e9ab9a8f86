pub mod Doing
pub mod Judgements
pub mod RunLemmas
