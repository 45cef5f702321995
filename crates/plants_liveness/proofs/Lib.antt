-- Laws that belong to no one function.
pub mod RisenFlags
pub mod Marking
pub mod Ranges
pub mod Lending
pub mod Sorting
pub mod Choosing
pub mod Counts
pub mod Laws
