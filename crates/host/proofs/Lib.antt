-- The laws, each file after what it says.
pub mod Deciding
pub mod Numbers
pub mod Numbered
pub mod Refusing
pub mod Composing
pub mod Unused
pub mod Fates
pub mod Batch
pub mod Sends
pub mod Places
pub mod Plants
pub mod PlantsRefusing
