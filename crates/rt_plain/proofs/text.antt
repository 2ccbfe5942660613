-- What is written is read back.
pub mod NumberLemmas
pub mod SplitLemmas
pub mod QuoteLemmas
pub mod FieldLemmas
pub mod FieldListLemmas
pub mod StatementTableLemmas
pub mod TailLemmas
pub mod LineTableLemmas
pub mod TraceLemmas
pub mod LineLemmas
pub mod BoardLemmas
pub mod CanonLemmas
pub mod ValidLemmas
pub mod RowLemmas
