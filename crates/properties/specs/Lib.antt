-- What a tick call is said to test and to write, and a night of them.
pub mod Places
pub mod Appending
pub mod Remembered
pub mod Nights
