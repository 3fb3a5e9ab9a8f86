mod ComplaintLemmas
mod FrontLemmas
mod NotingLemmas
mod HeapLemmas
mod RenderingLemmas
mod RunLogLemmas
mod RunLemmas
mod TallyLemmas
