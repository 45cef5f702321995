-- What a record of a send tells, and what its undoing leaves.
pub mod Sends
