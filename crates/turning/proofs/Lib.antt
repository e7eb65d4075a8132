pub mod Dispatch
pub mod Setting
