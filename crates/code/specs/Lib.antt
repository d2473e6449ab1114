-- What a code value is, how it is read, and how blocks match. The modules stand in the order of reading; Vocabulary is the code's.
pub mod Statements
pub mod Reader
pub mod Blocks
pub mod Partners
pub mod Within
pub mod Vocabulary
