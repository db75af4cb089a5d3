pub mod GiantSteps
