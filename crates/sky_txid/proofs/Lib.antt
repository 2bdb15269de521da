pub mod Rising
pub mod Seen
pub mod Reading
pub mod ReadBack
pub mod Searched
pub mod Texts
pub mod Covering
mod Worked
