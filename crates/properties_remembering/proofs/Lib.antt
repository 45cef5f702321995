-- Laws that belong to no one function.
pub mod Written
pub mod After
