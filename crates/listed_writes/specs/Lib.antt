-- One write with a neighbour list that needs no test: what the write does to the other slots and to check 2.
pub mod ListedWritesLaws
