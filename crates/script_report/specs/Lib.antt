-- The definitions that the crate's contracts cite.
pub mod Report
pub mod Pages
