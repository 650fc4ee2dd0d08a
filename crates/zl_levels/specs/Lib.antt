pub mod Initialised
pub mod Levels
pub mod MainForm
pub mod Standing
