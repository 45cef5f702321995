-- The night of a host, and what its words are then.
pub mod Night
