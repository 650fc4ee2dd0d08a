-- The list of the lemma files.
pub mod Backward
pub mod Built
pub mod Codes
pub mod Growing
pub mod Methods
pub mod Totals
pub mod OperatorLemmas
pub mod Popping
pub mod Steps
pub mod Taking
