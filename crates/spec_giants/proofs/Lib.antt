pub mod Entries
pub mod GiantSteps
pub mod Landings
