pub mod Lookups
pub use Rattle.pt_host.specs as pt_host
