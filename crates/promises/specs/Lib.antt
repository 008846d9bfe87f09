-- Document 01's three demands, and document 02's requests where a theorem of their own states them. Calls: calls one after the other; FirstDemand,
-- SecondDemand, ThirdDemand, KeysOfSlot, Editions, Replacements, Uncounted, Obscured, KeptNeighbours, AnyWords: the statements; their theorems are in the files of laws of the
-- same names.
pub mod Calls
pub mod FirstDemand
pub mod KeysOfSlot
pub mod SecondDemand
pub mod ThirdDemand
pub mod Editions
pub mod Replacements
pub mod Uncounted
pub mod Obscured
pub mod KeptNeighbours
pub mod AnyWords
