pub mod Nodes
pub mod Levels
pub mod Frames
pub mod Precedence
pub mod Parsing
pub mod Readers
pub mod Single
