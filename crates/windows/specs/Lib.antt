-- The windows of a table's rules, as functions of its words: how far each rule may go along a direction.
pub mod Windows
pub mod WindowsLaws
pub mod ListedLaws
