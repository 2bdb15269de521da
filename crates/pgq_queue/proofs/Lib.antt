pub mod AllStored
pub mod HeldBack
