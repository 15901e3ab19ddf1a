pub mod Fault
pub mod Text
pub mod Answering
