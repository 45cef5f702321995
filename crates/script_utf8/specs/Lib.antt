-- The definitions that the crate's contracts cite.
pub mod Utf8
pub mod Sure
