pub mod Text
pub mod Program
pub mod Meaning
pub mod Known
pub mod Run
pub mod Promise
pub mod Examples
