mod Conditions
mod Copying
mod Figures
mod Joining
mod Loose
mod Pieces
pub mod Refusing
