-- Laws that belong to no one function.
pub mod Beginnings
pub mod Stopping
pub mod Laws
pub mod Decimal
