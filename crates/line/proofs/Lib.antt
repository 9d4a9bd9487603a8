pub mod Lines
mod Rings
