pub mod ReaderLaws
pub mod WalkLaws
pub mod MessageLaws
