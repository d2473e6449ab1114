-- What was found of a class, a body and a standing, and what is read there: the laws that the proofs here and above cite.
pub mod Reading
pub mod Saying
