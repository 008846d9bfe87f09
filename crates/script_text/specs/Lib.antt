-- Text in bytes: parts between separators (Parts) and numbers in decimal (Decimal).
pub mod Parts
pub mod Decimal
