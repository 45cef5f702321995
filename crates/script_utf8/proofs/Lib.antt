-- The table accepts exactly the encodings of scalar values, decoding gives back what was encoded, and the last three bytes tell what a text
-- awaits.
pub mod Exact
pub mod Decoding
pub mod Examples
pub mod Sure
