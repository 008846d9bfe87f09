-- What holds of the definitions of specs/.
pub mod CarriedLaws
pub mod CellsLaws
