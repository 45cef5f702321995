-- The night that demand 3 speaks of, and the contracts that make it.
pub mod Night
pub mod Promised
