-- What a record of a change of options tells, and what its undoing leaves.
pub mod Choices
