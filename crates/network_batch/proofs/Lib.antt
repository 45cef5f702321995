-- Laws that belong to no one function.
pub mod Using
pub mod Sending
pub mod Undoing
pub mod Ticking
pub mod Parted
