-- The definitions that the crate's contracts cite: the choice of the core with its refusals.
pub mod Choice
