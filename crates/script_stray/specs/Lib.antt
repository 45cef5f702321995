-- The definitions that the crate's contracts cite: the line of a text that has bytes over 127 where none may be, and the walk to it.
pub mod Stray
pub mod Walk
