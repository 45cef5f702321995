-- Laws that belong to no one function.
pub mod Writing
pub mod Walking
pub mod Storing
pub mod Laws
