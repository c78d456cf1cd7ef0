-- Operators by rank.
use Rattle.std.proofs.Common.{◌≡◌, ◌<◌, inl, inr, ◌⊎◌, refl, arith}
use Rattle.pt_wide.specs.declared.expression.WideBinOp.{WideBinOp}
use Rattle.pt_wide.specs.declared.expression.WideBinOp.TheVariants.{Plain, MatMul}
use Rattle.pt_base.specs.declared.operators.BinOp.TheVariants.{Add}
use Rattle.pt_grammar.specs.declared.sign.Sign.TheVariants.{Mark as mark}
use Rattle.pt_grammar.specs.declared.sign.Mark.{Mark}
use Rattle.pt_grammar.specs.declared.sign.Mark.TheVariants as marks
use Rattle.pt_grammar.specs.Signs.{rank_of, rank_of_sign}

pub rank_small : (o : WideBinOp) → (0 < rank_of o) × (rank_of o < 8)
rank_small (Plain Add) = (omega arith, omega arith)
rank_small (Plain _) = (omega arith, omega arith)
rank_small MatMul = (omega arith, omega arith)

pub mark_rank : (m : Mark) → (rank_of_sign (mark m) ≡ 0) ⊎ (rank_of_sign (mark m) ≡ 12)
mark_rank marks.Open = inl refl
mark_rank marks.Close = inr refl
mark_rank marks.OpenBracket = inl refl
mark_rank marks.CloseBracket = inr refl
mark_rank marks.OpenBrace = inr refl
mark_rank marks.CloseBrace = inr refl
mark_rank marks.Comma = inr refl
mark_rank marks.Colon = inr refl
mark_rank marks.Semicolon = inr refl
mark_rank marks.Dot = inl refl
mark_rank marks.Assign = inr refl
mark_rank marks.Arrow = inr refl
mark_rank marks.Exclamation = inr refl
mark_rank marks.Tilde = inr refl
