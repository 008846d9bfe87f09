-- A neighbour list after a write to one slot. Updates: its numbers along one direction, and which are asked again. SearchesLaws: a search along positions.
-- UpdatesLaws: a number after the write, by the test that the code makes of it. AlongLaws: the list, position after position.
pub mod Updates
pub mod SearchesLaws
pub mod UpdatesLaws
pub mod AlongLaws
