pub mod Rows
pub mod Pens
pub mod Laws
