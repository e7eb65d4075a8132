pub mod Building
pub mod Cutting
pub mod Fields
pub mod Laws
pub mod Lines
pub mod Scanning
