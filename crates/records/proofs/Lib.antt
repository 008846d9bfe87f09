-- What holds of the definitions of specs/.
pub mod ChecksLaws
pub mod ClassWordsLaws
pub mod EditionsLaws
pub mod EntriesLaws
pub mod EqualLaws
pub mod InsertsLaws
pub mod Laws
pub mod ObscuredLaws
pub mod OrderLaws
pub mod PutSlotLaws
pub mod RulesLaws
pub mod WidthsLaws
pub mod WritesLaws
