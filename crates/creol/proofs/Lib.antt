-- What is proved of the entries beyond their contracts.
pub mod Only
pub mod Unpacked
