-- What a take made to words of its own leaves.
pub mod Takes
