pub mod Newest
pub mod Slots
