pub mod RegionSets
pub mod Tables
pub use Rattle.sem_names.specs as sem_names
