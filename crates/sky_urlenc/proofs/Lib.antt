pub mod RowTexts
pub mod Ignored
pub mod Cutting
pub mod Decoding
pub mod Escaping
pub mod InOrder
pub mod Fitting
pub mod NumberBack
pub mod PieceBack
pub mod ReadBack
mod Worked
mod WorkedChanges
mod WorkedEvents
