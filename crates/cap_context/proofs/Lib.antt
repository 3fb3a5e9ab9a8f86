mod ContextLemmas
mod KeptLemmas
mod WriterLemmas
