-- The mathematics of moving rules, over any entries with tests for "occupied", "same id" and "out of order", and any number of slots.
-- Order, Held, Replies, Cost, Chain, Write, Class, Plan: the definitions. InsertLaws: the theorems on an insert's plan. Changes: what it does to replies.
pub mod Order
pub mod Held
pub mod Replies
pub mod Minimum
pub mod Cost
pub mod Mirror
pub mod Chain
pub mod Write
pub mod Class
pub mod ClassTest
pub mod Plan
pub mod Valid
pub mod Choose
pub mod Insert
pub mod Reached
pub mod Clearing
pub mod Cleared
