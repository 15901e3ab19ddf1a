pub mod Same
pub mod Relations
pub mod Chain
pub mod Uses
pub mod Typings
pub mod Premises
pub mod Decided
