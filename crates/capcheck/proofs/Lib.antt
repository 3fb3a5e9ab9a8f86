mod OperandLemmas
mod InputLemmas
mod RunLemmas
mod StoreLemmas
