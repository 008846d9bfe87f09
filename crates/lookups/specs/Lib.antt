-- What a lookup answers, with an example, and which part of the lent table a slot's record is.
pub mod Lookup
