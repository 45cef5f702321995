-- What the journaled calls share.
pub mod Journaled
