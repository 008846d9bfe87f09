-- The planning of deletes: checks and words of a delete, its answer and the buffer afterwards.
pub mod Deletes
