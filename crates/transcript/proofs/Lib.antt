-- The laws of what the runner reads and writes.
pub mod Cutting
pub mod DigitsAlone
pub mod KindsFound
pub mod NumbersShown
pub mod OneResult
pub mod Reporting
pub mod Sessions
pub mod Storing
