pub mod HeightLaws
pub mod Recurrence
pub mod Stands
pub mod Turn
