pub mod Continued
pub mod Products
pub mod Listings
pub mod Numbered
pub mod LeastDegree
pub mod MonicUnits
pub mod Written
pub mod LeastAnswers
