-- Laws that belong to no one function.
pub mod Testing
pub mod Queueing
pub mod Once
