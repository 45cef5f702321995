-- Laws of a tick call, and laws that speak of several calls.
pub mod Fitting
pub mod Found
pub mod Judged
pub mod Tests
pub mod Refusals
pub mod Exactly
pub mod Appending
pub mod Words
pub mod Distinct
