-- The theorem, and that every list of calls has a night.
pub mod Night
pub mod Every
