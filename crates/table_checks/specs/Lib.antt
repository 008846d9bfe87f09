-- A column of a table's ids, which check 3 reads in place of the records, and a map of the ids seen, which it asks first; the screen of a lookup; how many slots a table has.
pub mod Ids
pub mod IdsLaws
pub mod Screen
pub mod ScreenLaws
pub mod SlotsLaws
