-- What the program makes of the answers of its reads and writes.
-- Which bytes the system gives and takes no contract tells: a checksum of those lent to it stands for them (Checksum). Of a reader and a writer whose
-- bytes are known, the bytes themselves are told (Streams).
pub mod Checksum
pub mod Streams
pub mod Reads
