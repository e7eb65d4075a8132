pub mod Values
pub mod Room
pub mod Relation
pub mod Outcomes
