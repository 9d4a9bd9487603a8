pub mod Events
pub mod OpenOrders
pub mod Reasons
pub mod Lawful
