-- Laws that belong to no one function.
pub mod Clauses
pub mod WholeForm
pub mod Maps
pub mod Calling
pub mod Laws
