pub mod Faults
pub mod Scripts
