pub mod Addresses
pub mod Paste
