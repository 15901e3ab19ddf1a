pub mod Bytes
pub mod Scan
