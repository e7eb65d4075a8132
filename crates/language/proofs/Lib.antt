pub mod Lists
pub mod Growth
pub mod Runs
pub mod Numbers
pub mod Fields
pub mod Examples
