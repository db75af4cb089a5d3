pub mod Program
pub mod Found
pub mod FirstLine
