-- Laws that belong to no one function.
pub mod Formed
pub mod Walking
pub mod Numbers
pub mod Gathering
pub mod Zeros
pub mod Clauses
