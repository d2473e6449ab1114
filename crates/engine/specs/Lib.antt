-- The entries: the whole result and every lent cell afterwards, on all inputs. The modules stand in the order of reading.
pub mod Run
pub mod Drive
pub mod Entries
pub mod Mixtures
