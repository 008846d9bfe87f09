-- What an insert, a delete and a lookup of a script do to the table, are answered and print.
-- Told: what each is answered. Outcomes: what it does.
pub mod Told
pub mod Outcomes
