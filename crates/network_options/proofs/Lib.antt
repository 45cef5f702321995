-- Laws that belong to no one function.
pub mod OptionForms
pub mod Numbers
