pub mod FrontLemmas
mod ReadBufferLemmas
mod SliceLemmas
mod TakingLemmas
