-- What a call that writes into a lent buffer answers and leaves there, given its checks and the words or bytes that it is to write.
pub mod Buffers
