pub mod WritingLemmas
pub mod SentLemmas
pub mod NodeLemmas
pub mod SectionLemmas
pub mod PlanLemmas
pub mod RowLemmas
pub mod WholeLemmas
