mod ReadLemmas
mod RunReadLemmas
