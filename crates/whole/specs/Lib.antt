-- Whole numbers, and the table of the numbers given back. The modules stand in the order of reading; Vocabulary is the code's.
pub mod Plain
pub mod Lists
pub mod Whole
pub mod Refusals
pub mod Vocabulary
