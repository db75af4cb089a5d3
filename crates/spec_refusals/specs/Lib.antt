pub mod Pairs
pub mod Lookups
pub mod LentLists
