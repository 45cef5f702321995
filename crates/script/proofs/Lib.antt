-- Laws that belong to no one function.
pub mod Saying
pub mod Judging
pub mod Filling
pub mod Most
pub mod Reading
pub mod Laws
pub mod FirstFault
pub mod Flaws
pub mod Same
