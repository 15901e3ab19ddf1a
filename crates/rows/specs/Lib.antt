pub mod Types
pub mod Terms
pub mod Processes
pub mod Tables
