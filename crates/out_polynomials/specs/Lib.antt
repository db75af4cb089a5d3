pub mod GiantSteps
pub mod IdealsAt
pub mod Lent
pub mod Products
