-- What the runner reads and writes. The modules stand in the order of reading.
pub mod Choices
pub mod Shown
pub mod Runner
