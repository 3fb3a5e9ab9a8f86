pub mod AccessLemmas
pub mod AddressLemmas
pub mod ClearLemmas
pub mod Derivations
pub mod DerivedLemmas
pub mod NarrowingLemmas
pub mod PermissionLemmas
pub mod ReachLemmas
pub mod ReplacedFields
pub mod TestLemmas
mod ResultLemmas
mod RootLemmas
