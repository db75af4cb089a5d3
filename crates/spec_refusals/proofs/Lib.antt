pub mod LentLists
pub mod Lookups
pub mod Pairs
pub mod Records
