pub mod CaveLemmas
pub mod CoverLemmas
