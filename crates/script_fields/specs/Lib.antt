-- The fields of script lines: what each means, in document 01's words.
-- FieldsLaws: for loops over a field and the tests of a number. PatternLaws: patterns and keys, bit by bit.
pub mod Fields
