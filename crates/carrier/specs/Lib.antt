pub mod Frames
pub mod Buses
