-- What undoing can break, and what the code's undoing tells.
pub mod Laws
pub mod Telling
pub mod Rows
