pub mod Records
pub mod Laws
pub mod Prints
pub mod Saving
pub mod Memory
