pub mod BelowLemmas
pub mod KeyLemmas
mod BlockLemmas
mod CountLemmas
mod EditLemmas
mod EntryLemmas
mod FreeLemmas
mod IndexLemmas
mod KeptLemmas
mod MeetLemmas
mod RecountLemmas
mod SharingLemmas
