-- What the proofs of this crate cite.
pub mod AtLine
pub mod Counting
pub mod InTurn
pub mod Ranging
pub mod Said
pub mod Tests
pub mod Unused
pub mod Whole
