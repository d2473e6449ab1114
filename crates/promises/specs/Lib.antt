-- What a run promises of its calls. The modules stand in the order of reading.
pub mod Histories
pub mod Lives
