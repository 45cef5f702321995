-- Laws that belong to no one function.
pub mod Turning
pub mod Chunks
pub mod Keeping
