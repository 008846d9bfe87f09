-- Printing: writing bytes at a place of a buffer (Printing), and the lines made of a letter and numbers (PrintedLines).
-- What is printed one after the other is printed as one text.
pub mod Printing
pub mod PrintingLaws
pub mod PrintedLines
pub mod PrintedLinesLaws
