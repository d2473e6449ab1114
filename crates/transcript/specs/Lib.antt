-- The definitions of the runner stand in crate session; what the contracts of this crate need beside them is vocabulary.
pub mod Vocabulary
