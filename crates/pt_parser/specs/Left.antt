-- What is left of a statement behind its first parts.
use Rattle.std.specs.Prelude.{◌≡◌, ℕ, true, List, [], ◌∷◌, ◌++◌}
use Rattle.pt_base.specs.declared.operators.BinOp.{BinOp}
use Rattle.pt_wide.specs.Syntax as S
use Rattle.pt_wide.specs.Syntax.{Exp, Stm}
use Rattle.pt_wide.specs.Fold.{all_of}
use Rattle.pt_grammar.specs.declared.sign.Sign.TheVariants.{Mark as mark}
use Rattle.pt_grammar.specs.declared.sign.Mark.TheVariants.{Assign}
use Rattle.pt_grammar.specs.Nodes.{line_of}
use Rattle.pt_grammar.specs.Lexemes.{Lexeme, sign}
use Rattle.pt_parser.specs.Forms.{Reads, Is, Then}
use Rattle.pt_parser.specs.Simple.{values, Assigned}
use Rattle.pt_parser.specs.Targets.{is_target}

-- what is left behind a value that stands behind these targets
pub data After (l : ℕ) : List Exp → Exp → List Lexeme → Stm → List Lexeme → Type 0 where
  at_end : {xs : List Exp} {v : Exp} {rest : List Lexeme} → After l xs v rest (S.assign l (all_of xs) v) rest
  at_assign : {m : ℕ} {xs : List Exp} {v : Exp} {s : Stm} {ts rest : List Lexeme} → is_target v ≡ true → Assigned l (xs ++ (v ∷ [])) ts s rest
      → After l xs v (sign m (mark Assign) ∷ ts) s rest

-- behind a target and the operator of an augmented assignment
abbrev pub Augmentation : Exp → BinOp → Reads Stm
Augmentation t o = Then values.reads (λ v. Is (S.augmented (line_of t) t o v))
