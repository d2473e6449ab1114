-- What the proofs of this crate and of those above it cite.
pub mod Both
pub mod Each
pub mod Open
pub mod Ranges
pub mod Refusing
pub mod Tables
pub mod Tested
