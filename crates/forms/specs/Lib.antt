-- What the contracts of the forms in code say beside the definitions of `rules`.
pub mod Vocabulary
