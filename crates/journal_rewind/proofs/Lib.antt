-- What each way out of a rewind leaves.
pub mod Rewinds
