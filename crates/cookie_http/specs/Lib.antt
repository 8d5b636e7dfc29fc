pub mod Fields
pub mod HttpError
pub mod Response
