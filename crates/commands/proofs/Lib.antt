-- Lemmas.
pub mod GrowLemmas
pub mod CommandLemmas
pub mod SaidLemmas
pub mod ArgLemmas
