pub mod NamedText
pub mod CodeRun
pub use Rattle.law_loading.specs.pt_code_loader as pt_code_loader
pub use Rattle.pt_runner.specs as pt_runner
pub use Rattle.law_loading.specs as law_loading
