pub mod Worked
pub mod Announcing
