-- What was read, as one number.
pub mod Vocabulary
