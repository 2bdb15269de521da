pub mod Table
pub mod Versions
pub mod Written
pub mod Older
pub mod Kept
pub mod Rows
