pub mod EarliestLemmas
pub mod UsesLemmas
pub mod SetLemmas
pub mod EqnUsesLemmas
pub mod OutlineLemmas
pub mod ResultLemmas
pub mod RefusedLemmas
