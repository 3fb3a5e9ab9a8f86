pub mod Granules
pub mod Indexes
pub mod ListLaws
pub mod Listed
mod Blocks
mod NextPut
mod Orders
mod Regions
mod Rooms
mod Ways
mod Writes
