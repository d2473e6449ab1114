-- What the proofs of this crate and of those above it cite.
mod Cases
mod TextBounds
pub mod AcceptedAt
pub mod AcceptedJudged
pub mod CodeRows
pub mod CodeTold
pub mod CodeValues
pub mod CountsOfNew
pub mod Framing
pub mod Knowing
pub mod Lookup
pub mod Loops
pub mod ModelTold
pub mod OneVerdict
pub mod Open
pub mod Passing
pub mod Puts
pub mod Session
pub mod TableRows
pub mod VerdictBounds
pub mod Verdicts
