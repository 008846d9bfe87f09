-- Planning an insert: its words, its answer and the buffer afterwards; demand 3.
-- Insertable: when its checks pass, in plain terms. Nearest: costs in the paper's words. PlanFound: the choice in its words.
-- Demand3: what is promised of its plan. Replacements: of a rule that is sent again. Tables: document 01's marked tables.
-- ListedInserts: the same with a neighbour list lent.
pub mod Joined
pub mod Inserts
pub mod Insertable
pub mod Nearest
pub mod PlanFound
pub mod Demand3
pub mod Replacements
pub mod Tables
pub mod ListedInserts
