pub mod World
pub mod Constants
pub mod Trees
pub mod Texts
pub mod Errors
pub mod Builtins
pub mod Variables
pub mod Operators
pub mod Primitives
pub mod Arguments
pub mod Starred
pub mod Attributes
pub mod Supers
pub mod Calls
pub mod Classes
pub mod Imports
pub mod Managers
pub mod Answers
pub mod Leaving
pub mod Raising
pub mod LogLines
pub mod HeapHost
pub mod Sound
pub mod Laws
pub use Rattle.pt_prims.specs.pt_methods as pt_methods
pub use Rattle.pt_helper_objects.specs as pt_helper_objects
