pub mod Conjugate
pub mod Distinct
pub mod Half
pub mod Palindrome
pub mod Period
pub mod Reflect
