-- Lemmas.
pub mod ShelfLemmas
