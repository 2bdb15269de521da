pub mod FreeNumbers
