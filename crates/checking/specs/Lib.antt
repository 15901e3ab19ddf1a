pub mod Refusal
pub mod Verdict
pub mod Theorems
pub mod Stack
