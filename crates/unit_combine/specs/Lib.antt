pub mod Written
pub mod Sum
pub mod Pair
