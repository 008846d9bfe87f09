-- Bits of a word, maps of slots by bit place and value (a screen that is trusted one way only), and the bounds of a choice of places.
pub mod Flags
pub mod FlagsLaws
pub mod Rows
pub mod RowsLaws
pub mod Places
pub mod PlacesLaws
