pub mod Applying
pub mod Laws
pub mod Known
pub mod Acting
pub use Rattle.law_doing.specs as law_doing
