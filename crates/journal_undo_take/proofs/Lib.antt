-- The records put back, what a record of a take tells, and what its undoing leaves.
pub mod PuttingBack
pub mod Takes
