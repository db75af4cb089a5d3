pub mod Decimals
pub mod Lengths
pub mod Lines
pub mod Listings
pub mod PlainWords
pub mod TooLong
