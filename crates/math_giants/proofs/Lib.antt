pub mod Below
pub mod Exists
pub mod GiantStep
pub mod Jumps
pub mod Lands
pub mod Place
pub mod Within
