-- What the proofs of this crate and of those above it cite.
mod Cases
pub mod CallFromTest
pub mod Changed
pub mod Configured
pub mod Facts
pub mod Freshly
pub mod FromTest
pub mod Moves
pub mod NewFacts
pub mod Open
pub mod Rewritten
pub mod ToTest
pub mod Unused
