-- The words of the uses' contracts.
pub mod Words
