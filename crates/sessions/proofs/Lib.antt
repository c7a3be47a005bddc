pub mod Fields
pub mod Kept
pub mod Lawful
pub mod Reading
pub mod Switches
pub mod Wholes
pub mod Wrong
