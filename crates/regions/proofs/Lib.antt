pub mod Places
pub mod Regions
