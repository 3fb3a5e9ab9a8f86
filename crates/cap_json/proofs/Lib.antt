pub mod WordLemmas
mod MemberLemmas
