-- The grammar of expressions and guards over any reading, and the readings. The modules stand in the order of reading;
-- Vocabulary is the code's.
pub mod Bytes
pub mod Parsed
pub mod Leaves
pub mod Expressions
pub mod Guards
pub mod Trees
pub mod Values
pub mod Within
pub mod Vocabulary
