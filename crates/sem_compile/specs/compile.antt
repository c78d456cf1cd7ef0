pub mod ScriptCode
pub mod Laws
