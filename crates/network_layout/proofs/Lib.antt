-- Laws that belong to no one function.
pub mod Heads
pub mod ReadBack
