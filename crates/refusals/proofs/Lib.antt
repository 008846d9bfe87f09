-- What holds of the definitions of specs/.
pub mod CallsLaws
pub mod CarryingLaws
pub mod ImageLaws
pub mod LinesLaws
pub mod PlanningLaws
pub mod RowsLaws
pub mod TableLaws
pub mod WidthsLaws
