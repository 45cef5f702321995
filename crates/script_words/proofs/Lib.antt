-- Laws that belong to no one function.
pub mod Walk
pub mod Cutting
pub mod Lines
pub mod Runs
pub mod Between
