pub mod Laws
pub mod LineLemmas
pub mod TurnLemmas
pub mod FollowLemmas
pub mod EndLemmas
pub mod OneEnd
pub mod SomeEnd
