-- The rules: what a chosen rule instance does, or the number that it is refused with; and what happens to a call by it. The modules stand in the
-- order of reading.
pub mod Next
pub mod Exec
pub mod Messages
pub mod Kinds
pub mod Step
pub mod Events
