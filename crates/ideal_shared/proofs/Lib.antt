pub mod Laws
pub mod MultiplierLaws
pub mod SharedLaws
pub mod Sizes
