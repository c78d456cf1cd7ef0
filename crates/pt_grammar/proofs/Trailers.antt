-- What stands behind a primary.
use Rattle.std.proofs.Common.{◌≡◌, ◌≢◌, ℕ, ◌-◌, ◌≤◌, ◌<◌, List, [], ◌∷◌, ◌++◌, Option, Some, true, false, inl, inr, refl, ap, subst, arith}
use Rattle.pt_wide.specs.Syntax as S
use Rattle.pt_wide.specs.Syntax.{Exp, Args}
use Rattle.pt_wide.specs.Measure.{depth_exp}
use Rattle.pt_readers.specs.Reading.{next_of, behind, Alike, Found, Refused}
use Rattle.pt_readers.proofs.Readers.{Binds, Shifts, Just, just, left, bad_refused}
use Rattle.pt_readers.proofs.Pieces.{Through, through}
use Rattle.pt_readers.proofs.Loops.{Repeats, Out, at_end, at_step, Right, loop_shifts, loop_binds, loop_found, loop_over}
use Rattle.pt_readers.proofs.Exits.{found_at, at_next}
use Rattle.pt_grammar.specs.declared.sign.Sign.{Sign}
use Rattle.pt_grammar.specs.declared.sign.Sign.TheVariants.{Mark as mark, Layout as layout}
use Rattle.pt_grammar.specs.declared.sign.Layout.TheVariants.{End}
use Rattle.pt_grammar.specs.declared.sign.Mark.TheVariants.{Dot, Open, Close, OpenBracket, CloseBracket}
use Rattle.pt_grammar.specs.Lexemes.{Lexeme, name, sign, sign_at}
use Rattle.pt_grammar.specs.Signs.{rank_of_sign}
use Rattle.pt_grammar.specs.Grammar.{Primary, primary, Trailed, trailed_end, trailed_more, Trailing, attribute, call, item, an_index, alone, unstarred, no_arguments, Index, Arguments, Atom}
use Rattle.pt_grammar.specs.Nodes.{Trailer, by_name, by_index, by_call, trailed_by}
use Rattle.pt_grammar.specs.Parts.{Fits, FitsTrailer, FitsArgs, Stops, Apart, ends_in_text, an_atom, an_index as index_part, some_arguments, a_trailer, a_primary}
use Rattle.pt_grammar.specs.CallViews.{depth_trailer}
use Rattle.pt_grammar.specs.CallParts.{IsName}
use Rattle.pt_grammar.proofs.Ranks.{IsSign, is_sign, apart_of, TrailSign, dot_sign, open_sign, bracket_sign, only_trail, no_rank}
use Rattle.pt_grammar.proofs.Begins.{some_name, some_exp, name_expr}

pub name_trails : (d : ℕ) (ts : List Lexeme) (l : ℕ) (x : List ℕ) → next_of ts ≡ Some (name l x) → Found (a_trailer d (mark Dot)) ts (by_name x) (behind ts)
name_trails d ts l x e = found_at (at_next ts e) record {
  front = name l x ∷ [];
  whole = refl;
  reads = λ more. attribute;
  stops = tt;
  fits = tt;
  only = λ more a x' rest' k n. out k;
}
  where
    out : {more rest' : List Lexeme} {x' : Trailer} → Trailing (mark Dot) (name l x ∷ more) x' rest' → (x' ≡ by_name x) × (rest' ≡ more)
    out attribute = (refl, refl)

pub no_name : (d : ℕ) (ts : List Lexeme) → (IsName (next_of ts) → ⊥) → Refused (a_trailer d (mark Dot)) false ts ts
no_name d ts n = bad_refused (a_trailer d (mark Dot)) ts (λ more a x' rest' k s. out a k) (some_name ∷ []) (by_name []) tt (λ z. attribute)
  where
    out : {more rest' : List Lexeme} {x' : Trailer} → Alike more ts → Trailing (mark Dot) more x' rest' → ⊥
    out (inl e) attribute = n (subst IsName e tt)
    out (inr e) attribute = cc

-- what stands in brackets, and the bracket that closes it
pub index_binds : (d : ℕ) → Binds (index_part d) (λ i. Through (IsSign (mark CloseBracket)) (Just (by_index i))) (a_trailer d (mark OpenBracket))
index_binds d = record {
  intro = λ ts y mid x rest q k. into q k;
  inv = λ ts x rest k s. out k;
  down = λ y mid x rest k f. part k f;
  finish = λ y f. (sign 0 (mark CloseBracket) ∷ [], by_index y, f, λ z. through is_sign just);
  extend = λ y. (sign 0 (mark CloseBracket) ∷ [], by_index y, λ z. through is_sign just);
}
  where
    into : {ts mid rest : List Lexeme} {y : Exp} {x : Trailer} → Index ts y mid → Through (IsSign (mark CloseBracket)) (Just (by_index y)) mid x rest → Trailing (mark OpenBracket) ts x rest
    into q (through is_sign just) = item q

    part : {mid rest : List Lexeme} {y : Exp} {x : Trailer} → Through (IsSign (mark CloseBracket)) (Just (by_index y)) mid x rest → FitsTrailer d x → Fits d y
    part (through j just) f = f

    out : {ts rest : List Lexeme} {x : Trailer} → Trailing (mark OpenBracket) ts x rest
        → (y : Exp) × (mid : List Lexeme) × Index ts y mid × (sign_at (next_of mid) ≡ Some (mark CloseBracket)) × Through (IsSign (mark CloseBracket)) (Just (by_index y)) mid x rest
    out (item q) = (_, _, q, refl, through is_sign just)

-- arguments, and the parenthesis that closes them
pub call_binds : (d : ℕ) → Binds (some_arguments d) (λ y. Just (by_call y)) (a_trailer d (mark Open))
call_binds d = record {
  intro = λ ts y mid x rest q k. into q k;
  inv = λ ts x rest k s. out k;
  down = λ y mid x rest k f. part k f;
  finish = λ y f. ([], by_call y, f, λ z. just);
  extend = λ y. ([], by_call y, λ z. just);
}
  where
    into : {ts mid rest : List Lexeme} {y : Args} {x : Trailer} → Arguments ts y mid → Just (by_call y) mid x rest → Trailing (mark Open) ts x rest
    into q just = call q

    part : {mid rest : List Lexeme} {y : Args} {x : Trailer} → Just (by_call y) mid x rest → FitsTrailer d x → FitsArgs d y
    part just f = f

    out : {ts rest : List Lexeme} {x : Trailer} → Trailing (mark Open) ts x rest → (y : Args) × (mid : List Lexeme) × Arguments ts y mid × Unit {0} × Just (by_call y) mid x rest
    out (call q) = (_, _, q, tt, just)

-- the sign that is left is a parenthesis
pub only_open : (s : Sign) → rank_of_sign s ≡ 0 → s ≢ mark Dot → s ≢ mark OpenBracket → s ≡ mark Open
only_open s h n m = one (only_trail s h) n m
  where
    one : {s : Sign} → TrailSign s → s ≢ mark Dot → s ≢ mark OpenBracket → s ≡ mark Open
    one dot_sign n m = absurd (n refl)
    one open_sign n m = refl
    one bracket_sign n m = absurd (m refl)

pub data Trails : Lexeme → Type 0 where
  trails : {l : ℕ} {s : Sign} → rank_of_sign s ≡ 0 → Trails (sign l s)

abbrev pub trail_sign : Lexeme → Sign
trail_sign (sign l s) = s
trail_sign _ = layout End

abbrev pub trailed_more_by : Exp → Lexeme → Trailer → Exp
trailed_more_by a t b = trailed_by a b

abbrev pub same_exp : Exp → Exp
same_exp e = e

trailing_rank : {s : Sign} {ts rest : List Lexeme} {t : Trailer} → Trailing s ts t rest → rank_of_sign s ≡ 0
trailing_rank attribute = refl
trailing_rank (call k) = refl
trailing_rank (item k) = refl

trailer_shrinks : (d : ℕ) (a : Exp) (t : Trailer) → Fits d (trailed_by a t) → Fits d a
trailer_shrinks d a (by_name x) f = (omega (arith, f.0), f.1)
trailer_shrinks d a (by_index i) f = (omega (arith, f.0), omega (arith, f.1))
trailer_shrinks d a (by_call args) f = (omega (arith, f.0), omega (arith, f.1))

trailer_part : (d : ℕ) (a : Exp) (t : Trailer) → Fits d (trailed_by a t) → FitsTrailer (d - 1) t
trailer_part d a (by_name x) f = tt
trailer_part d a (by_index i) f = (omega (arith, f.0), omega (arith, f.1))
trailer_part d a (by_call args) f = (omega (arith, f.0), omega (arith, f.1), omega (arith, f.1))

pub trailer_grows : (d : ℕ) (a : Exp) (t : Trailer) → Fits d a → depth_exp a < d → FitsTrailer (d - 1) t → Fits d (trailed_by a t)
trailer_grows d a (by_name x) f h g = (omega arith, f.1)
trailer_grows d a (by_index i) f h g = (omega (arith, h, g.0), omega (arith, f.1, g.1))
trailer_grows d a (by_call args) f h g = (omega (arith, h, g.0), omega (arith, f.1, g.1, g.2))

trailer_deep : (d : ℕ) (a : Exp) (t : Trailer) → d ≤ depth_exp a → Fits d (trailed_by a t) → ⊥
trailer_deep d a (by_name x) h f = omega (arith, f.0)
trailer_deep d a (by_index i) h f = omega (arith, f.0)
trailer_deep d a (by_call args) h f = omega (arith, f.0)

pub trailer_shallow : (d : ℕ) (t : Trailer) → FitsTrailer d t → depth_trailer t ≤ d
trailer_shallow d (by_name x) f = omega arith
trailer_shallow d (by_index i) f = f.0
trailer_shallow d (by_call args) f = f.0

far_trailer : (s : Sign) → TrailSign s → (w : List Lexeme) × (t : Trailer) × ((z : List Lexeme) → Trailing s (w ++ z) t z)
far_trailer s dot_sign = (some_name ∷ [], by_name [], λ z. attribute)
far_trailer s open_sign = (sign 0 (mark Close) ∷ [], by_call S.no_args, λ z. call no_arguments)
far_trailer s bracket_sign = (some_name ∷ (sign 0 (mark CloseBracket) ∷ []), by_index some_exp, λ z. item (an_index (alone (unstarred name_expr))))

module _ (d : ℕ) where
  trailed_shrinks : {a x : Exp} {ts rest : List Lexeme} → Trailed a ts x rest → Fits d x → Fits d a
  trailed_shrinks trailed_end f = f
  trailed_shrinks {a} (trailed_more {t = t} q k) f = trailer_shrinks d a t (trailed_shrinks k f)

  pub trailers : Repeats (a_primary d) Trailed Trails (λ t. a_trailer (d - 1) (trail_sign t)) trailed_more_by same_exp
  trailers = record {
    done = λ s ts. trailed_end;
    step = λ s t ts mid rest b x j q k. step j q k;
    out = λ s ts x rest k. out k;
    ends = λ x t s j. ends x j s;
    stays = λ s t b o g. tt;
    goes = λ t b u j. tt;
    shrinks = λ s ts x rest k f. trailed_shrinks k f;
    part = λ s t b f. trailer_part d s b f;
    far = λ t j. far j;
  }
    where
      step : {s x : Exp} {b : Trailer} {t : Lexeme} {ts mid rest : List Lexeme} → Trails t → Trailing (trail_sign t) ts b mid → Trailed (trailed_by s b) mid x rest → Trailed s (t ∷ ts) x rest
      step (trails e) q k = trailed_more q k

      out : {s x : Exp} {ts rest : List Lexeme} → Trailed s ts x rest → Out (a_primary d) Trailed Trails (λ t. a_trailer (d - 1) (trail_sign t)) trailed_more_by same_exp s ts x rest
      out trailed_end = at_end
      out (trailed_more q k) = at_step (trails (trailing_rank q)) q k

      ends : (x : Exp) {t : Lexeme} → Trails t → Stops 0 x (Some t) → ⊥
      ends x (trails e) s = omega (arith, s.0)

      far : {t : Lexeme} → Trails t → (w : List Lexeme) × (b : Trailer) × ((z : List Lexeme) → Trailing (trail_sign t) (w ++ z) b z)
      far (trails {s = s} e) = far_trailer s (only_trail s e)

  pub trailer_shifts : (a : Exp) (l : ℕ) (s : Sign) → rank_of_sign s ≡ 0
      → Shifts (sign l s) (left (a_primary d) (Right (a_primary d) Trailed Trails (λ t. a_trailer (d - 1) (trail_sign t)) trailed_more_by same_exp a (sign l s))) (left (a_primary d) (Trailed a))
  trailer_shifts a l s e = loop_shifts (a_primary d) Trailed Trails (λ t. a_trailer (d - 1) (trail_sign t)) trailed_more_by same_exp trailers a (sign l s) (trails e)

  pub trailer_binds : (a : Exp) (l : ℕ) (s : Sign) → Fits d a → depth_exp a < d
      → Binds (a_trailer (d - 1) s) (λ b. Trailed (trailed_by a b)) (left (a_primary d) (Right (a_primary d) Trailed Trails (λ t. a_trailer (d - 1) (trail_sign t)) trailed_more_by same_exp a (sign l s)))
  trailer_binds a l s f h = loop_binds (a_primary d) Trailed Trails (λ t. a_trailer (d - 1) (trail_sign t)) trailed_more_by same_exp trailers a (sign l s) (λ b g. trailer_grows d a b f h g)

  pub trailed_found : (a : Exp) (ts : List Lexeme) → ((s : Sign) → sign_at (next_of ts) ≡ Some s → rank_of_sign s ≢ 0) → Apart (ends_in_text a) (next_of ts) → Fits d a → Found (left (a_primary d) (Trailed a)) ts a ts
  trailed_found a ts n s f = loop_found (a_primary d) Trailed Trails (λ t. a_trailer (d - 1) (trail_sign t)) trailed_more_by same_exp trailers a ts (λ t e j. other j e)
      (no_rank 0 (omega arith) (next_of ts) (omega arith) n, s) f
    where
      other : {t : Lexeme} → Trails t → next_of ts ≡ Some t → ⊥
      other (trails {s = s} e) k = n s (ap sign_at k) e

  pub trailed_over : (a : Exp) (ts : List Lexeme) (l : ℕ) (s : Sign) → next_of ts ≡ Some (sign l s) → rank_of_sign s ≡ 0 → Fits d a → d ≤ depth_exp a
      → Refused (left (a_primary d) (Trailed a)) true ts ts
  trailed_over a ts l s e j f g = loop_over (a_primary d) Trailed Trails (λ t. a_trailer (d - 1) (trail_sign t)) trailed_more_by same_exp trailers a (sign l s) ts e (trails j) f (λ b k. trailer_deep d a b g k)

  pub primary_binds : Binds (an_atom d) Trailed (a_primary d)
  primary_binds = record {
    intro = λ ts y mid x rest q k. primary q k;
    inv = λ ts x rest k s. out k s;
    down = λ y mid x rest k f. trailed_shrinks k f;
    finish = λ y f. ([], y, f, λ z. trailed_end);
    extend = λ y. ([], y, λ z. trailed_end);
  }
    where
      first_stops : {a x : Exp} {ts rest : List Lexeme} → Trailed a ts x rest → Stops 0 x (next_of rest) → Apart (ends_in_text a) (next_of ts)
      first_stops trailed_end s = s.1
      first_stops {a} (trailed_more {l = l} {s = t} q k) s = apart_of (ends_in_text a) l t (omega (arith, trailing_rank q))

      out : {ts rest : List Lexeme} {x : Exp} → Primary ts x rest → Stops 0 x (next_of rest)
          → (y : Exp) × (mid : List Lexeme) × Atom ts y mid × Apart (ends_in_text y) (next_of mid) × Trailed y mid x rest
      out (primary q k) s = (_, _, q, first_stops k s, k)

-- no string goes on with what stands behind a primary
pub trailer_apart : (a : Exp) (t : Trailer) (next : Option Lexeme) → Apart (ends_in_text (trailed_by a t)) next
trailer_apart a (by_name x) next = tt
trailer_apart a (by_index i) next = tt
trailer_apart a (by_call args) next = tt
