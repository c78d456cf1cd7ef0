-- Signs by rank.
use Rattle.std.proofs.Common.{◌≡◌, ◌≢◌, ℕ, ◌<◌, ◌≤◌, Bool, true, false, Option, Some, None, inl, inr, ◌⊎◌, refl, ap, arith}
use Rattle.pt_base.specs.declared.operators.BinOp.TheVariants.{Add, Sub, Mul, Div, FloorDiv, Mod, Pow, BitAnd, BitOr, BitXor, LeftShift, RightShift}
use Rattle.pt_wide.specs.declared.expression.WideBinOp.{WideBinOp}
use Rattle.pt_wide.specs.declared.expression.WideBinOp.TheVariants.{Plain, MatMul}
use Rattle.pt_grammar.specs.declared.sign.Sign.{Sign}
use Rattle.pt_grammar.specs.declared.sign.Sign.TheVariants.{Operator, Mark as mark, Word as word, Layout as layout}
use Rattle.pt_grammar.specs.declared.sign.Layout.TheVariants.{FStart}
use Rattle.pt_grammar.specs.declared.sign.Mark.TheVariants as marks
use Rattle.pt_grammar.specs.declared.sign.Word.{Word}
use Rattle.pt_grammar.specs.declared.sign.Word.TheVariants.{And, Or, Not, In, Is, If, Else, Lambda, For, Yield, From}
use Rattle.pt_grammar.specs.Lexemes.{Lexeme, sign, sign_at}
use Rattle.pt_grammar.specs.Signs.{rank_of, rank_of_sign, rank_at}
use Rattle.pt_grammar.specs.Parts.{Apart}
pub use Rattle.pt_grammar.specs.Behind.{IsSign, is_sign}
use Rattle.pt_grammar.proofs.OperatorRanks.{rank_small, mark_rank}

-- the token that is a sign
pub signed_next : {s : Sign} (next : Option Lexeme) → sign_at next ≡ Some s → (l : ℕ) × (next ≡ Some (sign l s))
signed_next {s} (Some (sign l t)) h = (l, let e : t ≡ s = cc in ap (λ u. Some (sign l u)) e)
signed_next _ h = absurd (cc)

pub not_signed : {s : Sign} (next : Option Lexeme) → sign_at next ≢ Some s → (t : Lexeme) → next ≡ Some t → IsSign s t → ⊥
not_signed next n t e is_sign = n (ap sign_at e)

-- what goes on with nothing begins no string behind one
pub apart_of : (b : Bool) (l : ℕ) (s : Sign) → rank_of_sign s < 12 → Apart b (Some (sign l s))
apart_of false l s h = tt
apart_of true l (layout FStart) h = omega arith
apart_of true l (layout _) h = tt
apart_of true l _ h = tt

-- the words are as loose as comparisons at least
pub word_rank : (w : Word) → 7 < rank_of_sign (word w)
word_rank And = omega arith
word_rank Or = omega arith
word_rank Not = omega arith
word_rank In = omega arith
word_rank Is = omega arith
word_rank If = omega arith
word_rank Else = omega arith
word_rank Lambda = omega arith
word_rank For = omega arith
word_rank Yield = omega arith
word_rank From = omega arith

-- where no operator of the rank is next
other_rank : (s : Sign) → ((o : WideBinOp) → s ≡ Operator o → ⊥) → (rank_of_sign s ≡ 0) ⊎ (7 < rank_of_sign s)
other_rank (Operator o) n = absurd (n o refl)
other_rank (word w) n = inr (word_rank w)
other_rank (mark m) n = elim (mark_rank m) [ inl e ↦ inl e | inr e ↦ inr (omega (arith, e)) ]
other_rank _ n = inr (omega arith)

pub rank_up : (r : ℕ) → 0 < r → r < 8 → (next : Option Lexeme) → r ≤ rank_at next → ((o : WideBinOp) → sign_at next ≡ Some (Operator o) → rank_of o ≢ r) → r < rank_at next
rank_up r p h None k n = omega arith
rank_up r p h (Some (sign l (Operator o))) k n = omega (arith, n o refl)
rank_up r p h (Some (sign l s)) k n = omega (arith, other_rank s (λ o e. cc))
rank_up r p h (Some _) k n = omega arith

pub no_rank : (r : ℕ) → r < 12 → (next : Option Lexeme) → r ≤ rank_at next → ((s : Sign) → sign_at next ≡ Some s → rank_of_sign s ≢ r) → r < rank_at next
no_rank r h None k n = omega arith
no_rank r h (Some (sign l s)) k n = omega (arith, n s refl)
no_rank r h (Some _) k n = omega arith

-- the signs that stand behind a primary
pub data TrailSign : Sign → Type 0 where
  dot_sign : TrailSign (mark marks.Dot)
  open_sign : TrailSign (mark marks.Open)
  bracket_sign : TrailSign (mark marks.OpenBracket)

pub only_trail : (s : Sign) → rank_of_sign s ≡ 0 → TrailSign s
only_trail (mark marks.Open) h = open_sign
only_trail (mark marks.Close) h = absurd (omega arith)
only_trail (mark marks.OpenBracket) h = bracket_sign
only_trail (mark marks.CloseBracket) h = absurd (omega arith)
only_trail (mark marks.OpenBrace) h = absurd (omega arith)
only_trail (mark marks.CloseBrace) h = absurd (omega arith)
only_trail (mark marks.Comma) h = absurd (omega arith)
only_trail (mark marks.Colon) h = absurd (omega arith)
only_trail (mark marks.Semicolon) h = absurd (omega arith)
only_trail (mark marks.Dot) h = dot_sign
only_trail (mark marks.Assign) h = absurd (omega arith)
only_trail (mark marks.Arrow) h = absurd (omega arith)
only_trail (mark marks.Exclamation) h = absurd (omega arith)
only_trail (mark marks.Tilde) h = absurd (omega arith)
only_trail (word w) h = absurd (omega (arith, word_rank w))
only_trail (Operator o) h = absurd (omega (arith, rank_small o))
only_trail _ h = absurd (omega arith)

-- the only signs of their ranks
pub only_pow : (s : Sign) → rank_of_sign s ≡ 1 → s ≡ Operator (Plain Pow)
only_pow (Operator (Plain Pow)) h = refl
only_pow (Operator (Plain Add)) h = absurd (omega arith)
only_pow (Operator (Plain Sub)) h = absurd (omega arith)
only_pow (Operator (Plain Mul)) h = absurd (omega arith)
only_pow (Operator (Plain Div)) h = absurd (omega arith)
only_pow (Operator (Plain FloorDiv)) h = absurd (omega arith)
only_pow (Operator (Plain Mod)) h = absurd (omega arith)
only_pow (Operator (Plain BitAnd)) h = absurd (omega arith)
only_pow (Operator (Plain BitOr)) h = absurd (omega arith)
only_pow (Operator (Plain BitXor)) h = absurd (omega arith)
only_pow (Operator (Plain LeftShift)) h = absurd (omega arith)
only_pow (Operator (Plain RightShift)) h = absurd (omega arith)
only_pow (Operator MatMul) h = absurd (omega arith)
only_pow (word w) h = absurd (omega (arith, word_rank w))
only_pow (mark m) h = absurd (omega (arith, mark_rank m))
only_pow _ h = absurd (omega arith)

pub only_and : (s : Sign) → rank_of_sign s ≡ 9 → s ≡ word And
only_and (word And) h = refl
only_and (word Or) h = absurd (omega arith)
only_and (word Not) h = absurd (omega arith)
only_and (word In) h = absurd (omega arith)
only_and (word Is) h = absurd (omega arith)
only_and (word If) h = absurd (omega arith)
only_and (word Else) h = absurd (omega arith)
only_and (word Lambda) h = absurd (omega arith)
only_and (word For) h = absurd (omega arith)
only_and (word Yield) h = absurd (omega arith)
only_and (word From) h = absurd (omega arith)
only_and (Operator o) h = absurd (omega (arith, rank_small o))
only_and (mark m) h = absurd (omega (arith, mark_rank m))
only_and _ h = absurd (omega arith)

pub only_or : (s : Sign) → rank_of_sign s ≡ 10 → s ≡ word Or
only_or (word Or) h = refl
only_or (word And) h = absurd (omega arith)
only_or (word Not) h = absurd (omega arith)
only_or (word In) h = absurd (omega arith)
only_or (word Is) h = absurd (omega arith)
only_or (word If) h = absurd (omega arith)
only_or (word Else) h = absurd (omega arith)
only_or (word Lambda) h = absurd (omega arith)
only_or (word For) h = absurd (omega arith)
only_or (word Yield) h = absurd (omega arith)
only_or (word From) h = absurd (omega arith)
only_or (Operator o) h = absurd (omega (arith, rank_small o))
only_or (mark m) h = absurd (omega (arith, mark_rank m))
only_or _ h = absurd (omega arith)

pub only_if : (s : Sign) → rank_of_sign s ≡ 11 → s ≡ word If
only_if (word If) h = refl
only_if (word And) h = absurd (omega arith)
only_if (word Or) h = absurd (omega arith)
only_if (word Not) h = absurd (omega arith)
only_if (word In) h = absurd (omega arith)
only_if (word Is) h = absurd (omega arith)
only_if (word Else) h = absurd (omega arith)
only_if (word Lambda) h = absurd (omega arith)
only_if (word For) h = absurd (omega arith)
only_if (word Yield) h = absurd (omega arith)
only_if (word From) h = absurd (omega arith)
only_if (Operator o) h = absurd (omega (arith, rank_small o))
only_if (mark m) h = absurd (omega (arith, mark_rank m))
only_if _ h = absurd (omega arith)
