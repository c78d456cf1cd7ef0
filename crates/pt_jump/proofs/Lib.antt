mod Firsts
pub mod Targeting
