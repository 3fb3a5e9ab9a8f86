pub mod AnswerLemmas
mod DetailLemmas
pub mod TextLemmas
pub mod WhyLemmas
mod RangeLemmas
