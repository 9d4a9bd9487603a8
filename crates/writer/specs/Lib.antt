pub mod Encoding
pub mod Coding
pub mod Drafts
pub mod Writers
