mod AesLemmas
pub mod BytesLemmas
mod ColumnLemmas
mod EqualLemmas
pub mod GcmLemmas
pub mod HornerLemmas
mod LaneLemmas
pub mod MacLemmas
mod Made
mod MixingLemmas
pub mod ProductLemmas
mod SboxLemmas
mod StandardFacts
mod StepLemmas
mod TableLemmas
mod TurnedLemmas
