pub mod HorizonScript
pub mod Puts
pub mod ThinRun
