-- Laws that belong to no one function.
pub mod Taking
pub mod Listing
pub mod Once
