pub mod Further
pub mod Outcomes
pub mod Records
pub mod Refusals
pub mod Units
