pub mod StateText
pub mod Moves
pub mod Kinds
pub mod Nodes
