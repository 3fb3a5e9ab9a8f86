mod Joining
mod Lent
mod Merging
mod Permuted
mod Relent
mod Runs
mod Searching
mod Sorting
