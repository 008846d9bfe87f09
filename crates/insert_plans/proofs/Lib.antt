-- What holds of the definitions of specs/.
pub mod Demand3Laws
pub mod InsertableLaws
pub mod InsertsLaws
pub mod JoinedLaws
pub mod ListedInsertsLaws
pub mod ListedLaws
pub mod NearestLaws
pub mod PlanFoundLaws
pub mod ReplacementsLaws
pub mod TablesLaws
