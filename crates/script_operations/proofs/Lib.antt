-- What holds of the definitions of specs/.
pub mod OutcomesLaws
pub mod InsertLinesLaws
pub mod ToldLaws
