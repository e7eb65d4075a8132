pub mod Numbers
pub mod Texts
pub mod Compare
pub mod Fields
