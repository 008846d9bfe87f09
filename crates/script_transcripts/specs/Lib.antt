-- Whole scripts. Whole: however the input is cut into blocks, and the calls that the program makes.
-- Changes: demand 2 of scripts. LinesPrinted: what each line prints. Examples: document 01's script and its output, by computation.
pub mod Whole
pub mod Changes
pub mod LinesPrinted
