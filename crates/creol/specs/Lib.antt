-- What the entries for C and Rust give.
pub mod Vocabulary
