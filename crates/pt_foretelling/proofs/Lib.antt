pub mod Roles
pub mod Foretells
