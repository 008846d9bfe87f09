-- Document 01's write as one plan word of 32 bits, and back.
pub mod PlanWords
pub mod PlanWordsLaws
