-- What is left of an expression behind the atom with which it begins, from the tightest operators to the loosest (Language Reference 6.3 to 6.13).
use Rattle.std.specs.Prelude.{ℕ, zero, suc, List, []}
use Rattle.pt_wide.specs.Syntax.{Exp}
use Rattle.pt_grammar.specs.Lexemes.{Lexeme}
use Rattle.pt_grammar.specs.Grammar.{Trailed, Raised, Operated, Compared, Conjoined, Disjoined, Choice}
use Rattle.pt_grammar.specs.Behind.{Then}

abbrev pub OfPower : Exp → List Lexeme → Exp → List Lexeme → Type 0
OfPower a = Then (Trailed a) Raised

pub data OfBinary : ℕ → Exp → List Lexeme → Exp → List Lexeme → Type 0 where
  of_power : {a e : Exp} {ts rest : List Lexeme} → OfPower a ts e rest → OfBinary zero a ts e rest
  of_binary : {n : ℕ} {a b e : Exp} {ts mid rest : List Lexeme} → OfBinary n a ts b mid → Operated n b mid e rest → OfBinary (suc n) a ts e rest

abbrev pub OfComparisons : Exp → List Lexeme → Exp → List Lexeme → Type 0
OfComparisons a = Then (OfBinary 6 a) (λ e. Compared e [])

abbrev pub OfConjunction : Exp → List Lexeme → Exp → List Lexeme → Type 0
OfConjunction a = Then (OfComparisons a) (λ e. Conjoined e [])

abbrev pub OfDisjunction : Exp → List Lexeme → Exp → List Lexeme → Type 0
OfDisjunction a = Then (OfConjunction a) (λ e. Disjoined e [])

abbrev pub OfExpr : Exp → List Lexeme → Exp → List Lexeme → Type 0
OfExpr a = Then (OfDisjunction a) Choice
