pub mod HeaderLemmas
pub mod CutLemmas
pub mod ConsoleLemmas
