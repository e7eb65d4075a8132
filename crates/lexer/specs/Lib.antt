pub mod Memory
pub mod Ends
pub mod Classes
pub mod Marks
pub mod Scanning
pub mod Quotes
pub mod Places
pub mod Ahead
