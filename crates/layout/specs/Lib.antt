-- The layout of a configuration's cells, and the stages of a call. The modules stand in the order of reading; Vocabulary is the code's.
pub mod Layout
pub mod Stages
pub mod Vocabulary
