-- What the laws of the host's boundary speak of: calls one after the other, a tick by its calls, where each word stands, when the words
-- of plants are in shape, and the numbers of the rules.
pub mod Calls
pub mod Batch
pub mod Places
pub mod Plants
pub mod Numbers
pub mod Fates
