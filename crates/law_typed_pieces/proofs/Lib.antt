pub use Rattle.law_operands.proofs as law_operands
