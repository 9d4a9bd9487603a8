pub mod Text
pub mod Grammar
pub mod Printed
pub mod Meaning
