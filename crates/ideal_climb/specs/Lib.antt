pub mod Located
pub mod Climbs
