pub mod Bytes
pub mod DigitLemmas
pub mod TextLemmas
pub mod LaneLemmas
pub mod ReadingLemmas
pub mod WritingLemmas
