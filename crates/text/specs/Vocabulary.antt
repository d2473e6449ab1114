-- Vocabulary of the contracts: what the code answers, beside the definitions. Nobody has to believe it: no definition of document 01 uses it.
pub mod KeyLines
pub mod LineEnds
pub mod Readings
