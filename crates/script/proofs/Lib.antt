pub mod Reading
pub mod ReadingBack
