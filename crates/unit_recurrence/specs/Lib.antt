pub mod Recurrence
pub mod Pairs
