pub mod Start
pub mod Next
