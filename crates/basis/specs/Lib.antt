-- The definitions that several crates' contracts cite.
pub mod Basis
