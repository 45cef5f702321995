-- The definitions that the crate's contracts cite: the code's decisions in their plain form.
pub mod Answers
