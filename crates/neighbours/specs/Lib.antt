-- The neighbours of a new rule, as functions of a table's words: A and B, with checks 5, 6 and 8 to 10.
pub mod Neighbours
