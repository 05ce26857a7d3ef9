pub mod Going
pub mod Lines
pub mod Pinned
pub mod Starting
pub mod Whole
pub mod Lawful
