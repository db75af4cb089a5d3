pub mod Cases
pub mod Computed
pub mod Duplication
pub mod Example
pub mod Half
pub mod HalfWalk
pub mod Middles
