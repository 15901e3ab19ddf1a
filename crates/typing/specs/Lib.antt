pub mod Fits
pub mod Usage
pub mod Terms
pub mod Judging
pub mod Rules
