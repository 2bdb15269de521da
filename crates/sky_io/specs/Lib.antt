pub mod Faults
pub mod Appends
pub mod Supply
pub mod Store
pub mod Reading
pub mod Writing
