-- The plain form of the network and the journal: what the contracts of both cite, and the theorem that joins them.
pub mod Record
pub mod Net
pub mod Draws
pub mod Tests
pub mod Journal
pub mod Standing
pub mod Rule
pub mod Claim
