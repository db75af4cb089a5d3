pub mod Field
pub mod Polynomials
pub mod Primes
pub mod Words
