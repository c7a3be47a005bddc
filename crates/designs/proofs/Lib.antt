pub mod Blank
pub mod Crossed
pub mod Drawn
pub mod Joined
pub mod Loops
pub mod Names
pub mod Orders
