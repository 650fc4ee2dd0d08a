-- Instants of a normal form.
pub mod Places
pub mod OneMoment
pub mod Faults
pub mod Follows
pub mod Steps
