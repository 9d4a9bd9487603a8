pub mod Kinds
pub mod Packets
pub mod Readers
pub mod Messages
pub mod Walkers
