pub mod Leads
pub mod Graph
pub mod Laws
pub mod Drawing
pub mod Told
pub mod Astray
