-- What the proofs above cite.
mod Bounds
mod Cases
pub mod Adding
pub mod Chosen
pub mod Effects
pub mod ExecEffects
pub mod Executing
pub mod Inside
pub mod Kept
pub mod Leaving
pub mod Messaging
pub mod Moved
pub mod OneChoice
pub mod Open
pub mod Performing
pub mod Replying
pub mod Scene
pub mod Spared
