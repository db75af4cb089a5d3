pub mod Table
pub mod Rooted
pub mod Root
pub mod State
pub mod Start
pub mod Walk
