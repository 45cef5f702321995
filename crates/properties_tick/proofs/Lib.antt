-- Laws that belong to no one function.
pub mod Passed
pub mod Laws
pub mod Quiet
