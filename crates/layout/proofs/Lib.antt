-- The laws of the layout, and what the proofs above cite.
mod Cases
pub mod Fields
pub mod Laws
pub mod NewRows
pub mod Numbers
pub mod Open
pub mod Rows
pub mod Sparing
pub mod Writes
pub mod Zeros
