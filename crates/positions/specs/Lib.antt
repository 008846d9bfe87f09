-- Positions along a direction.
pub mod Positions
