pub mod Shown
pub mod Making
pub mod Lawful
