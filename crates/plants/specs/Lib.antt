-- The definitions that the crate's contracts cite: the refusals, the state of the plants, faults applied to it, and a message's verdict.
pub mod Refusals
pub mod State
pub mod Faults
pub mod Verdicts
