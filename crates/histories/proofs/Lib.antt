-- What holds of the definitions of specs/.
pub mod Demand2Laws
pub mod Examples
pub mod HistoriesLaws
pub mod HoldingLaws
pub mod InTurnLaws
pub mod InsertedLaws
pub mod RepliesLaws
pub mod RuleSetLaws
pub mod SoundnessLaws
pub mod TableRulesLaws
