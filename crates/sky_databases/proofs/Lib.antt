pub mod HandsAt
pub mod TwoPlaces
