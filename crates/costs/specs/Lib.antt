-- The costs of positions along a direction, as numbers, and that they are those of a layout.
-- Nothing here knows what a slot holds.
pub mod Costs
pub mod Ends
