pub mod FilledLemmas
pub mod PathLemmas
