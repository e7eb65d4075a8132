pub mod Says
pub mod Driving
