pub mod Faults
pub mod Spelling
pub mod Vocabulary
pub mod Names
