-- Laws that belong to no one function.
pub mod Quorums
pub mod Counted
pub mod Held
