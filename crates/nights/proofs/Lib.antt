-- Laws of the plain form, and the theorem of the journal.
pub mod Failing
pub mod Order
pub mod Folding
pub mod Good
pub mod Fold
pub mod Undo
pub mod Run
pub mod Exact
pub mod Unique
pub mod Back
pub mod Claim
pub mod Kept
pub mod Steps
