pub mod Encoding
pub mod Holding
pub mod Opening
pub mod Taking
