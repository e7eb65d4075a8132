mod Finishing
mod Laying
mod Printing
pub mod Saving
mod Stepping
mod Using
