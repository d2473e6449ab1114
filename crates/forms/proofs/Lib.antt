-- Laws that the proofs of the forms share.
pub mod Gathered
pub mod MakingLaws
pub mod Written
