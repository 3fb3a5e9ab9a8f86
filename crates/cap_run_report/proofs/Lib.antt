mod ObjectLemmas
mod StepLemmas
pub mod WhyLemmas
