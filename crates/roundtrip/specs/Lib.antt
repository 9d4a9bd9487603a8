pub mod Sending
pub mod RoundTrips
