pub mod Written
pub mod Roles
pub use Rattle.sem_compile.specs as sem_compile
