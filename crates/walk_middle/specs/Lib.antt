pub mod Middle
pub mod Compared
pub mod Strided
