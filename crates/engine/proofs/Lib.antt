-- What the proofs of this crate and of those above it cite.
mod Cases
mod Orders
pub mod Mixtures
pub mod Open
pub mod Quiet
