-- What the words of a lent table mean: slot records, rules, order, the first match, and the checks that refuse a table.
-- Record, Order, Checks: the definitions; Laws: what they say. Widths: which numbers of words the calls take. Rules: rules as records. Editions: the rank that a rule is given. ObscuredLaws: rules that can never match. Entries, Writes, ClassWords, Inserts: tables as layouts.
pub mod Record
pub mod Sound
pub mod Order
pub mod Verdict
pub mod Checks
pub mod Widths
pub mod Rules
pub mod Editions
pub mod Entries
pub mod Writes
pub mod ClassWords
pub mod Inserts
