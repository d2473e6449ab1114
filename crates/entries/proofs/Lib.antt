-- What is proved of the entries beyond their contracts.
pub mod AnswerBounds
mod Drives
mod Freshly
pub mod Only
pub mod OnlyDrive
pub mod OnlyRun
mod Outcomes
mod Refusing
pub mod RunOnward
mod RunOutcomes
mod Searching
mod Turns
