pub mod Vectors
pub mod VectorFiles
