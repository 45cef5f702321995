-- Laws that belong to no one function.
pub mod Below
pub mod Same
pub mod Held
pub mod Laid
pub mod Known
