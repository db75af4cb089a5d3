pub mod Digits
pub mod FromHalf
pub mod First
