pub mod TickLists
mod Worked
