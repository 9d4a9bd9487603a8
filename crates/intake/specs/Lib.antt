pub mod Lines
pub mod Meaning
