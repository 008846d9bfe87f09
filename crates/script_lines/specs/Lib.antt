-- Lines of an input: what they are (Lines), what the code holds of one (Held), and reading in blocks (Blocks).
-- BlocksLaws has the theorem, over any handler of lines: blocks hand out the same lines.
pub mod Lines
pub mod Held
pub mod Blocks
