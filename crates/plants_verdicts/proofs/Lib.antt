-- Laws that belong to no one function.
pub mod States
pub mod Judging
pub mod Each
pub mod Telling
pub mod Laws
