pub mod FieldTextLemmas
pub mod ResponseLemmas
