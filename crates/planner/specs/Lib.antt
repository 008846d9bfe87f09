-- The planner's numbers: the words of a chain, the choice, and that they are those of a layout.
-- Nothing here knows what a slot holds.
pub mod Emit
pub mod Choice
pub mod Agree
