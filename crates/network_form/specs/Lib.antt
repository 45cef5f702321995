-- The definitions that the crate's contracts cite: a head and its words in their plain form, and the calls on them.
pub mod Forms
pub mod Calls
