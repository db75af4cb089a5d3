pub mod Arithmetic
pub mod FirstRefusal
pub mod Operations
pub mod Readings
pub mod Squares
pub mod Tests
pub mod TicketRead
