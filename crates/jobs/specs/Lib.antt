pub mod Form
pub mod Bytes
pub mod Card
pub mod Label
pub mod Back
