pub mod UnaskedLemmas
pub mod WordLemmas
