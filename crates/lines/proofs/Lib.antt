pub mod Cuts
pub mod Holding
pub mod Keeping
pub mod Laying
pub mod Passing
pub mod Pieces
pub mod Places
pub mod Waiting
