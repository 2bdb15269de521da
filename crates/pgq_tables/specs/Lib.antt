pub mod Tables
pub mod ById
pub mod Listed
pub mod Order
pub mod Views
pub mod Kept
