mod VectorLemmas
mod VectorFileLemmas
