-- Worked runs that further laws are about, and tables of grades of worked forms.
pub mod SiteAtZero
pub mod TwoCrossings
pub mod Cascade
pub mod ArmGrades
pub mod SquareGrades
