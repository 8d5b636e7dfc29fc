pub mod Crash
pub mod Held
pub mod Memory
pub mod RevocationError
pub mod Revoked
pub mod Rowids
pub mod Table
