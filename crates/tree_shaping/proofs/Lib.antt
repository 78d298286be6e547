pub mod IndexingLemmas
