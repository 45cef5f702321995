-- Laws that belong to no one function.
pub mod Core
pub mod Rising
pub mod Values
pub mod Passing
pub mod Exactly
