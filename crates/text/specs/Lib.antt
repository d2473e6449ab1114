-- The lines of a text, their numbers, and how they are read one after another. The modules stand in the order of reading; Vocabulary is the
-- code's.
pub mod Lines
pub mod Numbers
pub mod InOrder
pub mod Vocabulary
