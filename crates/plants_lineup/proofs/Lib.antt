-- Laws that belong to no one function.
pub mod Tallies
pub mod Ids
pub mod Shuffling
pub mod Walks
pub mod Lining
