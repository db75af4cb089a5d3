pub mod Height
pub mod Recurrence
pub mod Stands
pub mod Turn
