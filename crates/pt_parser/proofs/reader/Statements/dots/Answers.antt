use Rattle.std.proofs.Common.{◌≡◌, ◌≢◌, ◌∙◌, ℕ, zero, suc, ◌+◌, List, [], ◌∷◌, Some, Option, sym, ap, subst, refl, length, arith}
use Rattle.pt_readers.specs.Reading.{next_of, behind, Carries}
use Rattle.pt_readers.proofs.Readers.{carries_all, left}
use Rattle.pt_readers.proofs.Exits.{some_more, shift_on}
use Rattle.pt_grammar.specs.Lexemes.{Lexeme, sign_at}
use Rattle.pt_parser.specs.Simple.{Dotted}
use Rattle.pt_parser.specs.Parts.{dots_in, some_dots}
use Rattle.pt_parser.proofs.ImportLemmas.{dots_shifts, dots_end}
use Rattle.pt_parser.proofs.reader.Statements.dots.Goals as goal

-- a token with dots is there
there : {k : ℕ} (ts : List Lexeme) → dots_in (sign_at (next_of ts)) ≡ suc k → (t : Lexeme) × (next_of ts ≡ Some t) × (dots_in (sign_at (Some t)) ≡ suc k)
there [] h = cc
there (t ∷ ts) h = (t, refl, h)

more_of : (m : ℕ) → m ≢ 0 → (k : ℕ) × (m ≡ suc k)
more_of zero n = absurd (n refl)
more_of (suc k) n = (k, refl)

pub more-init : goal.more-init
more-init c = record { carries = carries_all }

pub returns-then-more-eq0 : goal.returns-then-more-eq0
returns-then-more-eq0 c = c.more.invariant.carries.found _ _ (dots_end _ _ (sym c.dots_here-more.ensures ∙ c.if-more-eq0.true))

pub more-smaller : goal.more-smaller
more-smaller c =
    let k = more_of c.dots_here-more.result c.if-more-eq0.false in
    let t = there c.more.self (sym c.dots_here-more.ensures ∙ k.1) in
    omega (arith, ap length c.skip.ensures, some_more c.more.self t.1)

pub more-preserved : goal.more-preserved
more-preserved c = record {
  carries =
      let k = more_of c.dots_here-more.result c.if-more-eq0.false in
      let t = there c.more.self (sym c.dots_here-more.ensures ∙ k.1) in
      subst (λ u. Carries (some_dots 0) c.args.self.now (left (some_dots 0) (Dotted u)) c.skip.new.self) (ap (λ u. c.more.count + u) (sym k.1) ∙ sym c.in-Some.ensures.1)
      (shift_on c.more.invariant.carries (dots_shifts c.more.count t.0 k.0 t.2) t.1 c.skip.ensures);
}
