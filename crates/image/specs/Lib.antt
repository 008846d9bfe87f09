-- The saved image of a table: its bytes, the checks that a load makes, the table that an image means, and the answers of both calls.
-- Bytes, Indices, Format, Checks, Answers: the definitions of both calls. RoundTripLaws: that images load to the table they were saved from.
pub mod Bytes
pub mod Indices
pub mod Format
pub mod Checks
pub mod Answers
pub mod Reading
pub mod RoundTrip
