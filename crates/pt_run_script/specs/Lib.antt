pub mod ScriptRun
pub use Rattle.law_compile.specs as law_compile
pub use Rattle.pt_run_code.specs as pt_run_code
