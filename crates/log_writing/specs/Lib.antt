pub mod Overwriting
pub mod Writing
