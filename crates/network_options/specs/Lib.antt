-- The definitions that the crate's contracts cite: the code's options and refusals in their plain form.
pub mod Options
pub mod Answers
