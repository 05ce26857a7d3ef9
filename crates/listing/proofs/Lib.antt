pub mod Argument
pub mod Whole
pub mod Written
