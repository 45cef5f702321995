-- The definitions that the contracts of undoing cite, and the parts of being well formed that the laws speak of.
pub mod Undone
pub mod Parts
