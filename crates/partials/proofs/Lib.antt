pub mod Capped
pub mod Counted
pub mod Adding
pub mod Inserting
pub mod Nth
pub mod Rulings
