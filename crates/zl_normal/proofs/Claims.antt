-- The roles that the claims of a form give.
pub mod ClaimLaws
pub mod Claiming
pub mod FormClaims
pub mod UsesClaimed
pub mod RoleCases
pub mod FirstClaims
pub mod AllRoles
