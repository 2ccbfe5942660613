-- Worked examples of the definitions, computed.
pub mod Examples
pub mod TestLemmas
pub mod kernel
pub mod runs
pub mod text
