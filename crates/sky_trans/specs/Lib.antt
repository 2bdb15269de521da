pub mod Trans
