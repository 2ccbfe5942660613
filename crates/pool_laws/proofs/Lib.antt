pub mod ServedLemmas
pub mod CallSpares
pub mod StatementSpares
pub mod RunSpares
