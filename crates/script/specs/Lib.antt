-- What each line of a script does to the table and prints.
-- Told: what each is answered. Script: what it does.
pub mod Told
pub mod Script
