-- Worked normal forms.
pub mod SawTooth
pub mod Slopes
