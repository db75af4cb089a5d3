pub mod Records
pub mod First
