-- What the contracts of the entries in code say beside the definitions of `engine`.
pub mod Vocabulary
