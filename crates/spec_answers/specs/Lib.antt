pub mod Refusals
pub mod Further
pub mod Outcomes
pub mod Units
pub mod Records
