-- What the contracts of lookups in the table say beside the definitions of `cells`.
pub mod Vocabulary
