mod Loads
mod Reports
mod ThinExpansion
mod ThinMeaning
