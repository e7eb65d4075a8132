pub mod Reckoning
pub mod Reading
pub mod Comparing
pub mod Cutting
pub mod Placing
