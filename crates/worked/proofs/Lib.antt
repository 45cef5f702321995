-- The proof of the table, runs by computation, and the claim of the journal applied to two of them.
pub mod Table
pub mod Runs
pub mod Instances
