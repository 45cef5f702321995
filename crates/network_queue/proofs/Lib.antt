-- Laws that belong to no one function.
pub mod Inserting
pub mod Taking
pub mod Moving
pub mod Fronts
pub mod Packing
