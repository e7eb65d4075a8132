pub mod Putting
pub mod Joining
pub mod Widths
pub mod Windows
pub mod Ending
pub mod Going
