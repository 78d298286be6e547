pub mod StateLemmas
pub mod CaveLemmas
pub mod ReadLemmas
pub mod ToldLemmas
