-- Laws that belong to no one function.
pub mod Testing
pub mod Counting
pub mod Laws
