pub mod Cells
pub mod Doing
pub mod Making
