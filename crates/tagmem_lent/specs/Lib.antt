pub mod Lent
pub mod LentLaws
pub mod LentStores
