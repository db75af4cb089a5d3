pub mod Constant
pub mod Turn
