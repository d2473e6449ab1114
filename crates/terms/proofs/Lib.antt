-- The laws of the grammar of terms, and what the proofs above cite.
pub mod Answers
pub mod Bytes
mod Cases
pub mod Digits
pub mod Following
pub mod Gives
pub mod Moving
pub mod Nesting
pub mod Onward
pub mod Open
pub mod Parts
pub mod ReadWithin
pub mod Respect
pub mod Series
pub mod Starts
pub mod Variables
