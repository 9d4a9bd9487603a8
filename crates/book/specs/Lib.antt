-- Definitions.
pub mod Views
pub mod Orders
pub mod Laws
pub mod Standard
pub mod Bare
pub mod Withheld
pub mod Conditions
-- Lemmas, proved here since the laws of the three books cite them.
pub mod Lawful
pub mod Exactly
pub mod Kept
pub mod Tests
pub mod LawfulBare
pub mod LawfulWithholding
