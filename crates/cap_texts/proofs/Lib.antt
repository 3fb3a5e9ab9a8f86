pub mod FieldLemmas
pub mod MemoryTexts
pub mod TopLemmas
