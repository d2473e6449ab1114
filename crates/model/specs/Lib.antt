-- The model text: its reading in the document's order, the verdict, the model that an accepted text gives, and what it is like. The
-- modules stand in the order of reading; Vocabulary is the code's.
pub mod Bounds
pub mod Model
pub mod ModelText
pub mod Judge
pub mod Accepted
pub mod Vocabulary
