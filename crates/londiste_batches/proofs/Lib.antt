pub mod Calls
mod Batches
mod Taking
