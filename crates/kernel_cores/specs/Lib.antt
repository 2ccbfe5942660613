pub mod PlainCores
pub mod Nests
