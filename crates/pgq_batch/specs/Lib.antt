pub mod Bound
pub mod Placed
pub mod Looked
