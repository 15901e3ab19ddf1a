pub mod Entries
pub mod Weight
pub mod Pending
pub mod Turn
pub mod Agrees
pub mod SameAnswers
