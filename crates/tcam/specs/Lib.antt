-- What the exported functions return, and leave in the cells and the record that a caller lends.
-- The answers themselves are the table library's and the step's.
pub mod Cells
pub mod Carried
pub mod ListedCarried
pub mod Images
