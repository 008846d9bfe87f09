-- Answers as numbers and lent cells.
-- Cells: of planning calls and lookups. Carried: of a step.
pub mod Cells
pub mod Carried
