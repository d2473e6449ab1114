-- What the proofs of this crate and of those above it cite.
mod Cases
pub mod Open
