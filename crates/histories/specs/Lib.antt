-- Demand 2 of document 01. RuleSet: the rules inserted and not since deleted, and the highest-ranked match among them, without slots. Inserted: what an
-- insert changes. Holding, TableRules: a table and the rules it holds. Demand2: within a plan. Histories: from an empty table on.
-- RepliesLaws, SoundnessLaws: what a plan's writes do to replies and soundness. InTurnLaws: a plan, call by call.
pub mod RuleSet
pub mod Inserted
pub mod Holding
pub mod TableRules
pub mod Demand2
pub mod Histories
