-- The definitions that the crate's contracts cite.
pub mod Plain
pub mod Places
pub mod Packed
