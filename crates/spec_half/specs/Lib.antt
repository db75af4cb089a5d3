pub mod Half
pub mod Middles
pub mod Duplication
pub mod Computed
pub mod HalfWalk
