-- The definitions that the crate's contracts cite: the code's network in its plain form, and its calls.
pub mod Forms
pub mod Calls
