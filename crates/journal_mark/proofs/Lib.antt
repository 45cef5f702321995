-- What a mark leaves.
pub mod Marks
