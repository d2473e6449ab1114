-- What the proofs of this crate and of those above it cite.
mod Cases
pub mod Bringing
pub mod Cutting
pub mod KeyLines
pub mod NumberLines
pub mod NumbersIn
pub mod Onward
pub mod Open
pub mod Plain
pub mod SoMany
pub mod SoundEnds
