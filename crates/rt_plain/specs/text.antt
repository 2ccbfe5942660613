-- Texts: the lines of boards and traces, as they are read and written.
pub mod Words
pub mod Texts
pub mod Splits
pub mod Fields
pub mod FieldLists
pub mod StatementTable
pub mod Tails
pub mod LineTable
pub mod BoardText
pub mod TraceRows
pub mod Canon
