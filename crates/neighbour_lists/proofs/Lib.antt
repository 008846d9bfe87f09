-- What holds of the definitions of specs/.
pub mod LentLaws
pub mod ListsLaws
pub mod MarksLaws
pub mod PairLaws
pub mod PassLaws
pub mod RowLaws
