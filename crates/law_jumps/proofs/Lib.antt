pub use Rattle.law_compile.proofs as law_compile
pub use Rattle.law_code_jumps.proofs as law_code_jumps
