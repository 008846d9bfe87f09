-- Each call's checks as one list of rows, in document 01's order; that a call declines exactly by its list.
pub mod Rows
pub mod Calls
pub mod Lines
