-- What the contracts of the rules in code say beside the definitions of `rules`.
pub mod Vocabulary
