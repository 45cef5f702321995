-- The definitions that the crate's contracts cite, from a line up to the whole script.
pub mod Faults
pub mod Lines
pub mod Scripts
