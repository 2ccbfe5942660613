-- Lemmas.
pub mod Chains
