-- A script read block by block, on lent buffers.
pub mod Reading
pub mod ReadingLaws
