-- The list of the lemma files.
pub mod SawTooth
