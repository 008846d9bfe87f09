-- Printed answers: the lines of document 01.
-- RoomLaws: how long they can get, and with it how large the buffer is.
pub mod Answers
