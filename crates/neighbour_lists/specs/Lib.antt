-- The neighbour list of a table, and what is known in the middle of the pass that fills it.
-- Lists: the list. Row: a slot against those before it. Pass: slot after slot. PairLaws: the tests of a pair. RowLaws: a row's step by a
-- slot asked or dropped. LentLaws: a lent list beside the table's. MarksLaws: the words for each block after a pair is asked, and which slots they leave out. ListsLaws: the numbers
-- of the list. PassLaws: a row's start and end, and from one slot to the next.
pub mod Lists
pub mod Row
pub mod Pass
