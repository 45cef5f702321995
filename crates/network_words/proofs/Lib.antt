-- Laws that belong to no one function.
pub mod Told
pub mod InPlace
pub mod Fresh
