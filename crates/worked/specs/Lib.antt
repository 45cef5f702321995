-- The table of the rules' worked numbers.
pub mod Table
