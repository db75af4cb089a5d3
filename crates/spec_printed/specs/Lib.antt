pub mod Decimals
pub mod Lines
pub mod Listings
pub mod Lengths
pub mod TooLong
pub mod PlainWords
