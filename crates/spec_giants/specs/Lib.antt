pub mod Normal
pub mod GiantSteps
pub mod Steps
pub mod Entries
pub mod Landings
