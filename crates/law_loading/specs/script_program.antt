pub mod ScriptProgram
pub mod Laws
