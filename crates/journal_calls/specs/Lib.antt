-- The definitions that the contracts of the journaled calls cite.
pub mod Calls
