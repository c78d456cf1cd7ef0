-- Powers, and signs before a value.
use Rattle.std.proofs.Common.{◌≡◌, ◌≢◌, ℕ, ◌-◌, ◌≤◌, ◌<◌, List, [], ◌∷◌, Option, Some, None, true, inl, inr, refl, sym, ◌∙◌, ap, subst, arith}
use Rattle.pt_base.specs.declared.operators.BinOp.TheVariants.{Pow}
use Rattle.pt_base.specs.declared.operators.UnOp.{UnOp}
use Rattle.pt_wide.specs.declared.expression.WideBinOp.TheVariants.{Plain}
use Rattle.pt_wide.specs.Syntax as S
use Rattle.pt_wide.specs.Syntax.{Exp}
use Rattle.pt_wide.specs.Measure.{depth_exp}
use Rattle.pt_readers.specs.Reading.{next_of, Alike, Refused}
use Rattle.pt_readers.proofs.Readers.{Binds, Shifts, Narrows, Just, left}
use Rattle.pt_readers.proofs.Pieces.{Made, made, made_binds}
use Rattle.pt_readers.proofs.Exits.{over_refused_at}
use Rattle.pt_grammar.specs.declared.sign.Sign.{Sign}
use Rattle.pt_grammar.specs.declared.sign.Sign.TheVariants.{Operator}
use Rattle.pt_grammar.specs.Lexemes.{Lexeme, sign, sign_at}
use Rattle.pt_grammar.specs.Signs.{unary_of, unary_at}
use Rattle.pt_grammar.specs.Grammar.{Factor, unary, no_unary, Power, power, Raised, not_raised, raised, Primary}
use Rattle.pt_grammar.specs.Nodes.{line_of}
use Rattle.pt_grammar.specs.Parts.{Fits, Stops, ends_in_text, a_primary, a_power, a_factor}
use Rattle.pt_grammar.proofs.Options.{MayFollow, Ways, no_way, one_way}
use Rattle.pt_grammar.proofs.Ranks.{IsSign, is_sign, apart_of, no_rank, only_pow}
use Rattle.pt_grammar.proofs.Begins.{some_name, some_exp, fits_name, depth_some, name_factor, power_begins, atom_not_unary}

-- `a ** b`
abbrev pub power_of : Exp → Exp → Exp
power_of a b = S.binary (line_of a) (Plain Pow) a b

pub power_binds : (d : ℕ) → Binds (a_primary d) Raised (a_power d)
power_binds d = record {
  intro = λ ts y mid x rest k r. power k r;
  inv = λ ts x rest k s. out k s;
  down = λ y mid x rest r f. shrinks r f;
  finish = λ y f. ([], y, f, λ z. not_raised);
  extend = λ y. ([], y, λ z. not_raised);
}
  where
    shrinks : {mid rest : List Lexeme} {y x : Exp} → Raised y mid x rest → Fits d x → Fits d y
    shrinks not_raised f = f
    shrinks (raised k) f = (omega (arith, f.0), omega (arith, f.1))

    first_stops : {mid rest : List Lexeme} {y x : Exp} → Raised y mid x rest → Stops 1 x (next_of rest) → Stops 0 y (next_of mid)
    first_stops not_raised s = (omega (arith, s.0), s.1)
    first_stops {y = y} (raised {l = l} k) s = (omega arith, apart_of (ends_in_text y) l (Operator (Plain Pow)) (omega arith))

    out : {ts rest : List Lexeme} {x : Exp} → Power ts x rest → Stops 1 x (next_of rest)
        → (y : Exp) × (mid : List Lexeme) × Primary ts y mid × Stops 0 y (next_of mid) × Raised y mid x rest
    out (power k r) s = (_, _, k, first_stops r s, r)

-- where no `**` is next
pub not_pow : (a : Exp) (next : Option Lexeme) → sign_at next ≢ Some (Operator (Plain Pow)) → Stops 0 a next → Stops 1 a next
not_pow a next n s = (no_rank 1 (omega arith) next (omega (arith, s.0)) (λ t e k. n (e ∙ ap (λ u. Some u) (only_pow t k))), s.1)

abbrev pub RaisedTo : ℕ → Exp → Lexeme → List Lexeme → Exp → List Lexeme → Type 0
RaisedTo d a t = Made (a_factor (d - 1)) (power_of a)

pub raised_may : (d : ℕ) (a : Exp) → MayFollow (a_power d) (Raised a) (IsSign (Operator (Plain Pow))) (RaisedTo d a) a
raised_may d a = record {
  none = λ ts. not_raised;
  some = λ t ts y rest j k. into j k;
  out = λ ts y rest k. out k;
  ends = λ t s j. ends j s;
}
  where
    into : {t : Lexeme} {ts rest : List Lexeme} {y : Exp} → IsSign (Operator (Plain Pow)) t → Made (a_factor (d - 1)) (power_of a) ts y rest → Raised a (t ∷ ts) y rest
    into is_sign (made k) = raised k

    out : {ts rest : List Lexeme} {y : Exp} → Raised a ts y rest → Ways (a_power d) (Raised a) (IsSign (Operator (Plain Pow))) (RaisedTo d a) a ts y rest
    out not_raised = no_way
    out (raised k) = one_way is_sign (made k)

    ends : {t : Lexeme} → IsSign (Operator (Plain Pow)) t → Stops 1 a (Some t) → ⊥
    ends is_sign s = omega (arith, s.0)

pub raised_binds : (d : ℕ) (a : Exp) → Fits d a → depth_exp a < d → Binds (a_factor (d - 1)) (λ b. Just (power_of a b)) (left (a_power d) (Made (a_factor (d - 1)) (power_of a)))
raised_binds d a f h = made_binds (a_power d) (a_factor (d - 1)) (power_of a) (λ b o s. s) (λ b g. (omega (arith, g.0), omega (arith, g.1))) (λ b g. (omega (arith, f.0, g.0), omega (arith, f.1, g.1)))

pub raised_deep : (d : ℕ) (a : Exp) → d ≤ depth_exp a → (us : List Lexeme) (y : Exp) (rest : List Lexeme) → Made (a_factor (d - 1)) (power_of a) us y rest → Fits d y → ⊥
raised_deep d a h us y rest (made k) f = omega (arith, f.0)

-- signs before a value
pub unary_shifts : (d l : ℕ) (s : Sign) (o : UnOp) → unary_of s ≡ Some o → Shifts (sign l s) (left (a_factor d) (Made (a_factor (d - 1)) (S.unary l o))) (a_factor d)
unary_shifts d l s o h = record { intro = λ ts x rest k. into k; inv = λ ts x rest k n. (out k, n); stop = λ x p n. n; up = λ x f. f; down = λ x f. f }
  where
    into : {ts rest : List Lexeme} {x : Exp} → Made (a_factor (d - 1)) (S.unary l o) ts x rest → Factor (sign l s ∷ ts) x rest
    into (made k) = unary h k

    out : {ts rest : List Lexeme} {x : Exp} → Factor (sign l s ∷ ts) x rest → Made (a_factor (d - 1)) (S.unary l o) ts x rest
    out {ts} {rest} (unary {o = p} {e = e} g k) =
        let e' : p ≡ o = cc in
        subst (λ q. Made (a_factor (d - 1)) (S.unary l o) ts (S.unary l q e) rest) (sym e') (made k)
    out (no_unary k) = let n = atom_not_unary (Some (sign l s)) (power_begins k) in cc

pub unary_binds : (d l : ℕ) (o : UnOp) → 0 < d → Binds (a_factor (d - 1)) (λ e. Just (S.unary l o e)) (left (a_factor d) (Made (a_factor (d - 1)) (S.unary l o)))
unary_binds d l o h = made_binds (a_factor d) (a_factor (d - 1)) (S.unary l o) (λ b p s. s) (λ b g. (omega (arith, g.0), g.1)) (λ b g. (omega (arith, g.0), g.1))

-- where no sign is next
pub power_narrows : (d : ℕ) (ts : List Lexeme) → unary_at (next_of ts) ≡ None → Narrows ts (a_power d) (a_factor d)
power_narrows d ts n = record { into = λ more x rest k. no_unary k; out = λ more x rest a k s. (out a k, s); stop = λ x o s. s; up = λ x f. f; down = λ x f. f }
  where
    out : {more rest : List Lexeme} {x : Exp} → Alike more ts → Factor more x rest → Power more x rest
    out (inl e) (unary h k) = let g = ap unary_at e in cc
    out (inr e) (unary h k) = cc
    out a (no_unary k) = k

-- no room for a sign's node
pub unary_over : (ts : List Lexeme) (l : ℕ) (s : Sign) (o : UnOp) → next_of ts ≡ Some (sign l s) → unary_of s ≡ Some o → Refused (a_factor 1) true ts ts
unary_over ts l s o e h =
    over_refused_at (a_factor 1) (sign l s) ts e (λ more x' rest' k n f. deep k f) (some_name ∷ []) (S.unary l o some_exp) (λ z. unary h name_factor) (some_name ∷ []) some_exp (fits_name 1 (omega arith)) (λ z. name_factor)
  where
    deep : {more rest : List Lexeme} {x : Exp} → Factor (sign l s ∷ more) x rest → Fits 1 x → ⊥
    deep (unary {e = e} g k) f = omega (arith, f.0, depth_some e)
    deep (no_unary k) f = let n = atom_not_unary (Some (sign l s)) (power_begins k) in cc

pub unary_next : (next : Option Lexeme) (o : UnOp) → unary_at next ≡ Some o → (l : ℕ) × (s : Sign) × (next ≡ Some (sign l s)) × (unary_of s ≡ Some o)
unary_next (Some (sign l s)) o h = (l, s, refl, h)
unary_next _ o h = cc
