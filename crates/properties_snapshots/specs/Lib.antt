-- The definitions that the crate's contracts cite.
pub mod Layout
pub mod Below
pub mod Cluster
pub mod Shape
pub mod Fits
pub mod Snapshots
