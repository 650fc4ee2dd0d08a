-- Worked codes of orders.
pub mod SawTooth
pub mod Counter
pub mod Nested
