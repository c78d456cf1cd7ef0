pub mod Chains
pub mod Leads
pub mod Graph
pub mod Cuts
