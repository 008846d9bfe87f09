-- What a step answers, and the table and the writes done after it.
-- Carrying: the definitions of a step. Steps: the ways in which it ends. Calls, UntilLaws: step after step.
pub mod Carrying
pub mod Steps
pub mod Calls
