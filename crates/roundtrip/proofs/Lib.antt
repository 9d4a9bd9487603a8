pub mod BackLaws
pub mod AgainLaws
pub mod SendLaws
pub mod TripLaws
