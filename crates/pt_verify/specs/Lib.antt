pub mod Leaves
pub mod Probing
pub mod Verdict
pub mod Laws
