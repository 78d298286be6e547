pub mod AloneLemmas
pub mod RoundLemmas
