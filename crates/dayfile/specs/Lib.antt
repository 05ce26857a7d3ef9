pub mod Faults
pub mod Words
pub mod Format
pub mod Reading
pub mod Encoding
pub mod Holding
pub mod Opened
