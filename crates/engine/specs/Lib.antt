pub mod Prints
pub mod Setting
pub mod Dispatch
pub mod Scenes
pub mod Steps
