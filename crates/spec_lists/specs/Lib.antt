pub mod Words
pub mod Same
pub mod Kinds
pub mod Pad
