-- The laws of the grammar of code values, and what the proofs above cite.
mod Cases
pub mod Counting
pub mod Ending
pub mod Forms
pub mod Gathering
pub mod Going
pub mod Jumps
pub mod Matching
pub mod NewCounts
pub mod Open
pub mod OpenBlocks
pub mod ReadWithin
pub mod Respect
pub mod Searches
pub mod Shapes
pub mod Stacks
pub mod Told
