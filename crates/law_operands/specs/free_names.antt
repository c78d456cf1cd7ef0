pub mod FreeNames
