-- Where a call stands in its model, whether cells are a configuration of it, and the configuration that a start writes. The modules stand in the
-- order of reading.
pub mod Standing
pub mod Configuration
pub mod Fresh
