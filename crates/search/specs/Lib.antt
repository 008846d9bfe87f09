-- Searches over indices, and the laws by which loops are proved.
-- Everything is over a test p : ℕ → Bool and a count.
pub mod Search
pub mod SearchLaws
pub mod PartsLaws
