-- The definitions that the crate's contracts cite: shuffling by picks, and the core of plants.
pub mod Shuffle
pub mod Core
