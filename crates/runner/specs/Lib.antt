pub mod Faults
pub mod Running
pub mod Printing
pub mod Days
pub mod Lawful
