-- Laws that belong to no one function.
pub mod Laying
pub mod Lengths
pub mod Listing
pub mod Within
pub mod Names
pub mod Pages
