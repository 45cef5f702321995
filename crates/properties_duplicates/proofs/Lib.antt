-- Laws that belong to no one function.
pub mod Ids
pub mod Folded
