-- Vocabulary of the contracts: what the code answers, keeps and packs, beside the definitions. Nobody has to believe it: no definition of
-- document 01 uses it.
pub mod Belonging
pub mod Creations
pub mod Judging
pub mod Known
pub mod Leaving
pub mod Standing
pub mod Table
