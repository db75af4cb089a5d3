pub mod Operands
pub mod Products
