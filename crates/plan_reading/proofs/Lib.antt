pub mod FieldLemmas
pub mod LineLemmas
pub mod MisfitLemmas
pub mod ReadLemmas
pub mod PutLemmas
pub mod PrintedLemmas
