pub mod Assembly
pub mod Machine
pub mod Generator
pub mod Laws
pub mod Example
