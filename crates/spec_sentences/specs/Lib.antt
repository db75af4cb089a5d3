pub mod Sentences
pub mod Tests
pub mod FirstRefusal
pub mod TicketRead
pub mod Arithmetic
pub mod Operations
