-- Lemmas.
pub mod BuiltLemmas
pub mod StepLemmas
pub mod DeliverLemmas
pub mod FireLemmas
pub mod TickLemmas
pub mod MachineLemmas
pub mod RestLemmas
