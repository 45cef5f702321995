-- The walk finds the stray line.
pub mod Walking
pub mod Sure
pub mod Plain
pub mod Table
pub mod Told
