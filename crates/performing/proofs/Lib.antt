-- Laws that the proofs of the rules in code share: what a rule gives test after test, and what a statement with its arguments beside it says.
pub mod Choosing
pub mod Spoken
