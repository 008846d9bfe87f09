-- Ternary words: what it means to match, to overlap and to lie within a mask, bit by bit, and the tests on words that decide it.
-- Bit: positions of one word. Word: the tests of one word. Pattern: any number of words. Comparison: two patterns, apart, overlapping or covering.
pub mod Bit
pub mod Word
pub mod Pattern
pub mod Comparison
