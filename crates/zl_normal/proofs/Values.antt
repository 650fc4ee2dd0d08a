-- The values of entries in a form that has the main block alone.
pub mod Entries
pub mod Lasts
