pub mod Numbers
pub mod WordKind
