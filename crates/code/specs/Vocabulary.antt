-- Vocabulary of the contracts: what the code answers, keeps and packs, beside the definitions. Nobody has to believe it: no definition of
-- document 01 uses it.
pub mod Answers
pub mod Counting
pub mod Creating
pub mod OpenBlocks
pub mod Parts
pub mod Readers
pub mod Shapes
