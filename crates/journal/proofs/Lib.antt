-- The theorem; that the contracts are what it asks of a turn; that every list of calls has a night; and that no refusal is 0.
pub mod Joined
pub mod Night
pub mod Every
pub mod NeverZero
