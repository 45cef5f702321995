-- The definitions that the crate's contracts cite.
pub mod Digits
pub mod Reading
pub mod Writing
pub mod Bytes
