pub mod Numbers
pub mod Least
pub mod AsNumbers
