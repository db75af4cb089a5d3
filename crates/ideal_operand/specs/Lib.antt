pub mod Ideal
pub mod Operand
pub mod Product
pub mod Difference
pub mod Upper
pub mod Cofactor
