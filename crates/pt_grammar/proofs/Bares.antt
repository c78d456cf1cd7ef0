-- Expressions or targets with commas between them, as one expression, and `yield`.
use Rattle.std.proofs.Common.{◌≡◌, ◌≢◌, ℕ, ◌-◌, ◌≤◌, ◌<◌, Bool, true, false, List, [], ◌∷◌, Option, Some, inl, inr, refl, sym, ◌∙◌, ap, arith}
use Rattle.pt_wide.specs.Syntax as S
use Rattle.pt_wide.specs.Syntax.{Exp}
use Rattle.pt_wide.specs.Fold.{all_of}
use Rattle.pt_wide.specs.Measure.{depth_exp}
use Rattle.pt_readers.specs.Reading.{next_of, Part, Alike, Found, Refused, Carries}
use Rattle.pt_readers.proofs.Readers.{Binds, Shifts, Narrows, Just, left, nothing_found, bad_refused, narrow_carries}
use Rattle.pt_readers.proofs.Pieces.{Made, made, made_binds, made_found}
use Rattle.pt_readers.proofs.Exits.{over_refused_at, goes_on}
use Rattle.pt_grammar.specs.declared.part.Part.{Part as WhichPart}
use Rattle.pt_grammar.specs.declared.part.Part.TheVariants.{Whole, Target}
use Rattle.pt_grammar.specs.declared.sign.Sign.{Sign}
use Rattle.pt_grammar.specs.declared.sign.Sign.TheVariants.{Augmented, Mark as mark, Word as word, Layout as layout}
use Rattle.pt_grammar.specs.declared.sign.Mark.{Mark}
use Rattle.pt_grammar.specs.declared.sign.Mark.TheVariants.{Close, CloseBracket, CloseBrace, Comma, Colon, Semicolon, Assign, Exclamation}
use Rattle.pt_grammar.specs.declared.sign.Word.TheVariants.{In, Yield, From}
use Rattle.pt_grammar.specs.declared.sign.Layout.TheVariants.{Newline, FStart}
use Rattle.pt_grammar.specs.Lexemes.{Lexeme, sign, sign_at}
use Rattle.pt_grammar.specs.Signs.{rank_of_sign, begins_sign, begins_item, ends_sign, ends_items}
use Rattle.pt_grammar.specs.Grammar.{MoreItems, no_comma, last_comma, Item, Bare, alone, a_tuple, Value, no_yield, a_yield, Yielded, yield_none, yield_from, yield_some}
use Rattle.pt_grammar.specs.Nodes.{line_of, Listed}
use Rattle.pt_grammar.specs.Parts.{Fits, Stops, Apart, ends_in_text, plain_rank, item_rank, last_of, IsComma, StopsItems, FitsItems, an_item, some_exprs, a_bare, a_value, a_yielded, an_expr}
use Rattle.pt_grammar.specs.Behind.{Starting, starting, Followed, followed_end, followed_more}
use Rattle.pt_grammar.proofs.Ranks.{IsSign, is_sign}
use Rattle.pt_grammar.proofs.Atoms.{apart_mark}
use Rattle.pt_grammar.proofs.Begins.{some_name, some_exp, depth_some, name_expr}
use Rattle.pt_grammar.proofs.Items.{item_begins, far_item, rank_small, items_list, closed}
use Rattle.pt_grammar.proofs.Sequels.{starting_carries, just_bad}

-- What ends them goes on with no item.
pub apart_sign : (b : Bool) (l : ℕ) (s : Sign) → s ≢ layout FStart → Apart b (Some (sign l s))
apart_sign false l s n = tt
apart_sign true l (layout FStart) n = absurd (n refl)
apart_sign true l (layout _) n = tt
apart_sign true l _ n = tt

pub item_plain : (p : WhichPart) (e : Exp) → item_rank p e ≤ plain_rank p
item_plain Whole (S.starred l e) = omega arith
item_plain Target (S.starred l e) = omega arith
item_plain p _ = omega arith

plain_small : (p : WhichPart) → plain_rank p ≤ 11
plain_small Whole = omega arith
plain_small Target = omega arith

mark_end : (p : WhichPart) (m : Mark) → ends_sign p (mark m) ≡ true → plain_rank p < rank_of_sign (mark m)
mark_end p Close h = omega (arith, plain_small p)
mark_end p CloseBracket h = omega (arith, plain_small p)
mark_end p CloseBrace h = omega (arith, plain_small p)
mark_end p Colon h = omega (arith, plain_small p)
mark_end p Semicolon h = omega (arith, plain_small p)
mark_end p Assign h = omega (arith, plain_small p)
mark_end p Exclamation h = omega (arith, plain_small p)
mark_end p _ h = cc

sign_end : (p : WhichPart) (e : Exp) (l : ℕ) (s : Sign) → ends_sign p s ≡ true → Stops (plain_rank p) e (Some (sign l s))
sign_end p e l (mark m) h = (mark_end p m h, apart_mark (ends_in_text e) l m)
sign_end p e l (Augmented o) h = (omega (arith, plain_small p), apart_sign (ends_in_text e) l (Augmented o) (λ k. cc))
sign_end p e l (layout Newline) h = (omega (arith, plain_small p), apart_sign (ends_in_text e) l (layout Newline) (λ k. cc))
sign_end Target e l (word In) h = (omega arith, apart_sign (ends_in_text e) l (word In) (λ k. cc))
sign_end p e l _ h = cc

pub end_stops : (p : WhichPart) (e : Exp) (next : Option Lexeme) → ends_items p next ≡ true → Stops (plain_rank p) e next
end_stops p e (Some (sign l s)) h = sign_end p e l s h
end_stops p e _ h = cc

pub end_stops_item : (p : WhichPart) (e : Exp) (next : Option Lexeme) → ends_items p next ≡ true → Stops (item_rank p e) e next
end_stops_item p e next h = let s = end_stops p e next h in (omega (arith, s.0, item_plain p e), s.1)

mark_begins_none : (p : WhichPart) (m : Mark) → ends_sign p (mark m) ≡ true → begins_sign p (mark m) ≡ false
mark_begins_none p Close h = refl
mark_begins_none p CloseBracket h = refl
mark_begins_none p CloseBrace h = refl
mark_begins_none p Colon h = refl
mark_begins_none p Semicolon h = refl
mark_begins_none p Assign h = refl
mark_begins_none p Exclamation h = refl
mark_begins_none p _ h = cc

sign_begins_none : (p : WhichPart) (s : Sign) → ends_sign p s ≡ true → begins_sign p s ≡ false
sign_begins_none p (mark m) h = mark_begins_none p m h
sign_begins_none p (Augmented o) h = refl
sign_begins_none p (layout Newline) h = refl
sign_begins_none Target (word In) h = refl
sign_begins_none p _ h = cc

pub end_begins_none : (p : WhichPart) (next : Option Lexeme) → ends_items p next ≡ true → begins_item p next ≡ false
end_begins_none p (Some (sign l s)) h = sign_begins_none p s h
end_begins_none p _ h = cc

end_no_comma : (p : WhichPart) (next : Option Lexeme) → ends_items p next ≡ true → IsComma next → ⊥
end_no_comma p (Some (sign l (mark Comma))) h c = cc
end_no_comma p (Some (sign l _)) h c = c
end_no_comma p _ h c = c

pub end_stops_items : (p : WhichPart) (b : Bool) (es : List Exp) (next : Option Lexeme) → ends_items p next ≡ true → StopsItems p b es next
end_stops_items p true es next h = end_begins_none p next h
end_stops_items p false [] next h = end_no_comma p next h
end_stops_items p false (e ∷ es) next h = (end_stops_item p (last_of e es) next h, end_no_comma p next h)

-- what ends them looks so from before too
pub end_alike : (p : WhichPart) {more : List Lexeme} (ts : List Lexeme) → Alike more ts → ends_items p (next_of more) ≡ true → ends_items p (next_of ts) ≡ true
end_alike p ts (inl e) h = sym (ap (ends_items p) e) ∙ h
end_alike p ts (inr e) h = let g = sym h ∙ ap (λ u. ends_items p (next_of u)) e in cc

-- nothing more is to come, and what is next doesn't end them
pub ends_bad : (P : Part Lexeme Exp) (p : WhichPart) (x : Exp) (ts : List Lexeme) → P.fits x → ends_items p (next_of ts) ≡ false → ((o : Option Lexeme) → P.stops x o → ends_items p o ≡ true)
    → Refused (left P (Just x)) false ts ts
ends_bad P p x ts f s g = just_bad P x ts f (λ more a k. let i = sym (end_alike p ts a (g (next_of more) k)) ∙ s in cc)

pub bare_begins : {p : WhichPart} {ts rest : List Lexeme} {e : Exp} → Bare p ts e rest → begins_item p (next_of ts) ≡ true
bare_begins (alone q) = item_begins q
bare_begins (a_tuple q k) = item_begins q

begins_alike : (p : WhichPart) {more : List Lexeme} (ts : List Lexeme) → Alike more ts → begins_item p (next_of more) ≡ true → begins_item p (next_of ts) ≡ true
begins_alike p ts (inl e) h = sym (ap (begins_item p) e) ∙ h
begins_alike p ts (inr e) h = let g = sym h ∙ ap (λ u. begins_item p (next_of u)) e in cc

-- the comma behind the first item, and further ones
module _ (p : WhichPart) (d : ℕ) where
  pub followed_shrinks : {e x : Exp} {ts rest : List Lexeme} → Followed p e ts x rest → Fits d x → Fits d e
  followed_shrinks followed_end f = f
  followed_shrinks {e} (followed_more k) f =
      let g : FitsItems d (e ∷ []) = (items_list p d).shrinks (e ∷ []) _ _ _ k (omega (arith, f.0), omega (arith, f.1), omega (arith, f.1)) in
      (omega (arith, g.0), omega (arith, g.1))

  pub bare_binds : Binds (an_item p d) (Followed p) (a_bare p d)
  bare_binds = record {
    intro = λ ts y mid x rest q k. into q k;
    inv = λ ts x rest k s. out k s;
    down = λ y mid x rest k f. followed_shrinks k f;
    finish = λ y f. ([], y, f, λ z. followed_end);
    extend = λ y. ([], y, λ z. followed_end);
  }
    where
      into : {ts mid rest : List Lexeme} {y x : Exp} → Item p ts y mid → Followed p y mid x rest → Bare p ts x rest
      into q followed_end = alone q
      into q (followed_more k) = a_tuple q k

      out : {ts rest : List Lexeme} {x : Exp} → Bare p ts x rest → ends_items p (next_of rest) ≡ true
          → (y : Exp) × (mid : List Lexeme) × Item p ts y mid × Stops (item_rank p y) y (next_of mid) × Followed p y mid x rest
      out {rest = rest} {x = x} (alone q) s = (x, rest, q, end_stops_item p x (next_of rest) s, followed_end)
      out (a_tuple {l = l} {e = e} q k) s = (_, _, q, (omega (arith, rank_small p e), apart_mark (ends_in_text e) l Comma), followed_more k)

  module _ (e : Exp) where
    -- no comma is next
    pub followed_ends : (ts : List Lexeme) → sign_at (next_of ts) ≢ Some (mark Comma) → ends_items p (next_of ts) ≡ true → Fits d e → Found (left (a_bare p d) (Followed p e)) ts e ts
    followed_ends ts n s f = nothing_found (left (a_bare p d) (Followed p e)) ts e (λ more. followed_end) s f (λ more a x' rest' k m. out a k)
      where
        out : {more rest' : List Lexeme} {x' : Exp} → Alike more ts → Followed p e more x' rest' → (x' ≡ e) × (rest' ≡ more)
        out a followed_end = (refl, refl)
        out (inl h) (followed_more k) = absurd (n (sym (ap sign_at h)))
        out (inr h) (followed_more k) = cc

    pub followed_bad : (ts : List Lexeme) → sign_at (next_of ts) ≢ Some (mark Comma) → ends_items p (next_of ts) ≡ false → Fits d e → Refused (left (a_bare p d) (Followed p e)) false ts ts
    followed_bad ts n b f = bad_refused (left (a_bare p d) (Followed p e)) ts (λ more a x' rest' k s. out a k s) [] e f (λ z. followed_end)
      where
        out : {more rest' : List Lexeme} {x' : Exp} → Alike more ts → Followed p e more x' rest' → ends_items p (next_of rest') ≡ true → ⊥
        out {more} a followed_end s = let h = sym (end_alike p ts a s) ∙ b in cc
        out (inl h) (followed_more k) s = n (sym (ap sign_at h))
        out (inr h) (followed_more k) s = cc

    -- no room for a tuple
    pub followed_over : (ts : List Lexeme) (l : ℕ) → next_of ts ≡ Some (sign l (mark Comma)) → Fits d e → d ≤ depth_exp e → Refused (left (a_bare p d) (Followed p e)) true ts ts
    followed_over ts l h f deep =
        over_refused_at (left (a_bare p d) (Followed p e)) (sign l (mark Comma)) ts h (λ more x' rest' k s g. out k s g) [] (S.tuple (line_of e) (all_of (e ∷ []))) (λ z. followed_more last_comma) [] e f (λ z. followed_end)
      where
        out : {more rest' : List Lexeme} {x' : Exp} → Followed p e (sign l (mark Comma) ∷ more) x' rest' → ends_items p (next_of rest') ≡ true → Fits d x' → ⊥
        out followed_end s g = cc
        out (followed_more k) s g =
            let i : FitsItems (d - 1) (e ∷ []) = (items_list p (d - 1)).shrinks (e ∷ []) _ _ _ k (omega (arith, g.0), omega (arith, g.1), omega (arith, g.1)) in
            omega (arith, i.0, g.0, deep)

    abbrev Further : Part Lexeme Listed
    Further = left (some_exprs p (d - 1)) (MoreItems p (e ∷ []))

    abbrev CommaFirst : Part Lexeme Listed
    CommaFirst = left Further (Starting (IsSign (mark Comma)) (MoreItems p (e ∷ [])))

    abbrev pub tuple_of : Listed → Exp
    tuple_of x = S.tuple (line_of e) (all_of x.items)

    pub comma_carries : (ts : List Lexeme) (l : ℕ) → next_of ts ≡ Some (sign l (mark Comma)) → Fits d e → depth_exp e < d → Carries CommaFirst ts Further ts
    comma_carries ts l h f small = starting_carries Further (IsSign (mark Comma)) (sign l (mark Comma)) is_sign (λ x k s. none k s) [] [] (closed (e ∷ [])) last_comma refl
        (omega (arith, small), omega (arith, f.1), omega arith) ts h
      where
        none : {x : Listed} → MoreItems p (e ∷ []) [] x [] → StopsItems p x.comma x.items (Some (sign l (mark Comma))) → ⊥
        none no_comma s = s.1 tt

    pub several_narrows : (ts : List Lexeme) (l : ℕ) → next_of ts ≡ Some (sign l (mark Comma)) → Narrows ts (left (a_bare p d) (Made CommaFirst tuple_of)) (left (a_bare p d) (Followed p e))
    several_narrows ts l h = record { into = λ more x rest k. into k; out = λ more x rest a k s. (out a k s, s); stop = λ x o s. s; up = λ x f. f; down = λ x f. f }
      where
        into : {more rest : List Lexeme} {x : Exp} → Made CommaFirst tuple_of more x rest → Followed p e more x rest
        into (made (starting is_sign k)) = followed_more k

        out : {more rest : List Lexeme} {x : Exp} → Alike more ts → Followed p e more x rest → ends_items p (next_of rest) ≡ true → Made CommaFirst tuple_of more x rest
        out a followed_end s = let g = sym (end_alike p ts a s) ∙ ap (ends_items p) h in cc
        out a (followed_more k) s = made (starting is_sign k)

    pub several_binds : depth_exp e < d → Binds CommaFirst (λ x. Just (tuple_of x)) (left (a_bare p d) (Made CommaFirst tuple_of))
    several_binds small = made_binds (a_bare p d) CommaFirst tuple_of (λ x o s. end_stops_items p x.comma x.items o s) (λ x f. (omega (arith, f.0), omega (arith, f.1), omega (arith, f.1))) (λ x f. (omega (arith, f.0, small), omega (arith, f.1, f.2)))

    -- Where the comma is next, what is left is decided so.
    pub several_found : (ts rest : List Lexeme) (x : Listed) (l : ℕ) → next_of ts ≡ Some (sign l (mark Comma)) → Fits d e → depth_exp e < d → Found Further ts x rest → ends_items p (next_of rest) ≡ true
        → Found (left (a_bare p d) (Followed p e)) ts (tuple_of x) rest
    several_found ts rest x l h f small g s = made_found (a_bare p d) (narrow_carries (several_narrows ts l h)) (several_binds small) ((comma_carries ts l h f small).found _ _ g) s
        (omega (arith, g.fits.0, small), omega (arith, g.fits.1, g.fits.2))

    pub several_bad : (ts rest : List Lexeme) (x : Listed) (l : ℕ) → next_of ts ≡ Some (sign l (mark Comma)) → Fits d e → depth_exp e < d → Found Further ts x rest → ends_items p (next_of rest) ≡ false
        → Refused (left (a_bare p d) (Followed p e)) false ts rest
    several_bad ts rest x l h f small g s = (goes_on (narrow_carries (several_narrows ts l h)) (several_binds small) ((comma_carries ts l h f small).found _ _ g)).refused false _
        (ends_bad (a_bare p d) p (tuple_of x) rest (omega (arith, g.fits.0, small), omega (arith, g.fits.1, g.fits.2)) s (λ o k. k))

-- `yield`
pub bare_narrows : (d : ℕ) (ts : List Lexeme) → sign_at (next_of ts) ≢ Some (word Yield) → Narrows ts (a_bare Whole d) (a_value d)
bare_narrows d ts n = record { into = λ more x rest k. no_yield k; out = λ more x rest a k s. (out a k, s); stop = λ x o s. s; up = λ x f. f; down = λ x f. f }
  where
    out : {more rest : List Lexeme} {x : Exp} → Alike more ts → Value more x rest → Bare Whole more x rest
    out a (no_yield k) = k
    out (inl h) (a_yield k) = absurd (n (sym (ap sign_at h)))
    out (inr h) (a_yield k) = cc

pub yield_shifts : (d l : ℕ) → Shifts (sign l (word Yield)) (a_yielded l d) (a_value d)
yield_shifts d l = record { intro = λ ts x rest k. a_yield k; inv = λ ts x rest k s. (out k, s); stop = λ x o s. s; up = λ x f. f; down = λ x f. f }
  where
    out : {ts rest : List Lexeme} {x : Exp} → Value (sign l (word Yield) ∷ ts) x rest → Yielded l ts x rest
    out (a_yield k) = k
    out (no_yield k) = let h = bare_begins k in cc

module _ (l d : ℕ) where
  pub yield_ends : 0 < d → (ts : List Lexeme) → ends_items Whole (next_of ts) ≡ true → Found (a_yielded l d) ts (S.yield l S.absent) ts
  yield_ends some ts s = nothing_found (a_yielded l d) ts (S.yield l S.absent) (λ more. yield_none) s (omega (arith, some), omega arith) (λ more a x' rest' k m. out a k)
    where
      out : {more rest' : List Lexeme} {x' : Exp} → Alike more ts → Yielded l more x' rest' → (x' ≡ S.yield l S.absent) × (rest' ≡ more)
      out a yield_none = (refl, refl)
      out (inl h) (yield_from k) = let g = sym s ∙ sym (ap (ends_items Whole) h) in cc
      out (inr h) (yield_from k) = cc
      out a (yield_some k) = let g = sym (end_begins_none Whole (next_of ts) s) ∙ begins_alike Whole ts a (bare_begins k) in cc

  -- neither `from` nor an item nor an end is next
  pub yield_bad : 0 < d → (ts : List Lexeme) → ends_items Whole (next_of ts) ≡ false → sign_at (next_of ts) ≢ Some (word From) → begins_item Whole (next_of ts) ≡ false
      → Refused (a_yielded l d) false ts ts
  yield_bad some ts s n b = bad_refused (a_yielded l d) ts (λ more a x' rest' k m. out a k m) [] (S.yield l S.absent) (omega (arith, some), omega arith) (λ z. yield_none)
    where
      out : {more rest' : List Lexeme} {x' : Exp} → Alike more ts → Yielded l more x' rest' → ends_items Whole (next_of rest') ≡ true → ⊥
      out a yield_none m = let g = sym (end_alike Whole ts a m) ∙ s in cc
      out (inl h) (yield_from k) m = n (sym (ap sign_at h))
      out (inr h) (yield_from k) m = cc
      out a (yield_some k) m = let g = sym (begins_alike Whole ts a (bare_begins k)) ∙ b in cc

  pub from_shifts : (m : ℕ) → Shifts (sign m (word From)) (left (a_yielded l d) (Made (an_expr (d - 1)) (S.yield_from l))) (a_yielded l d)
  from_shifts m = record { intro = λ ts x rest k. into k; inv = λ ts x rest k s. (out k s, s); stop = λ x o s. s; up = λ x f. f; down = λ x f. f }
    where
      into : {ts rest : List Lexeme} {x : Exp} → Made (an_expr (d - 1)) (S.yield_from l) ts x rest → Yielded l (sign m (word From) ∷ ts) x rest
      into (made k) = yield_from k

      out : {ts rest : List Lexeme} {x : Exp} → Yielded l (sign m (word From) ∷ ts) x rest → ends_items Whole (next_of rest) ≡ true → Made (an_expr (d - 1)) (S.yield_from l) ts x rest
      out yield_none s = cc
      out (yield_from k) s = made k
      out (yield_some k) s = let h = bare_begins k in cc

  pub from_binds : 0 < d → Binds (an_expr (d - 1)) (λ e. Just (S.yield_from l e)) (left (a_yielded l d) (Made (an_expr (d - 1)) (S.yield_from l)))
  from_binds some = made_binds (a_yielded l d) (an_expr (d - 1)) (S.yield_from l) (λ e o s. end_stops Whole e o s) (λ e f. (omega (arith, f.0), f.1)) (λ e f. (omega (arith, f.0, some), f.1))

  pub some_narrows : (ts : List Lexeme) → begins_item Whole (next_of ts) ≡ true → Narrows ts (left (a_yielded l d) (Made (a_bare Whole (d - 1)) (λ e. S.yield l (S.given e)))) (a_yielded l d)
  some_narrows ts b = record { into = λ more x rest k. into k; out = λ more x rest a k s. (out a k s, s); stop = λ x o s. s; up = λ x f. f; down = λ x f. f }
    where
      into : {more rest : List Lexeme} {x : Exp} → Made (a_bare Whole (d - 1)) (λ e. S.yield l (S.given e)) more x rest → Yielded l more x rest
      into (made k) = yield_some k

      out : {more rest : List Lexeme} {x : Exp} → Alike more ts → Yielded l more x rest → ends_items Whole (next_of rest) ≡ true → Made (a_bare Whole (d - 1)) (λ e. S.yield l (S.given e)) more x rest
      out a yield_none s = let g = sym b ∙ end_begins_none Whole (next_of ts) (end_alike Whole ts a s) in cc
      out (inl h) (yield_from k) s = let g = sym b ∙ sym (ap (begins_item Whole) h) in cc
      out (inr h) (yield_from k) s = cc
      out a (yield_some k) s = made k

  pub some_binds : 0 < d → Binds (a_bare Whole (d - 1)) (λ e. Just (S.yield l (S.given e))) (left (a_yielded l d) (Made (a_bare Whole (d - 1)) (λ e. S.yield l (S.given e))))
  some_binds some = made_binds (a_yielded l d) (a_bare Whole (d - 1)) (λ e. S.yield l (S.given e)) (λ e o s. s) (λ e f. (omega (arith, f.0), f.1)) (λ e f. (omega (arith, f.0, some), f.1))

-- no room for what is yielded
pub from_over : (l m : ℕ) (ts : List Lexeme) → next_of ts ≡ Some (sign m (word From)) → Refused (a_yielded l 1) true ts ts
from_over l m ts h =
    over_refused_at (a_yielded l 1) (sign m (word From)) ts h (λ more x' rest' k s f. out k s f) (some_name ∷ []) (S.yield_from l some_exp) (λ z. yield_from name_expr) [] (S.yield l S.absent) (omega arith, omega arith) (λ z. yield_none)
  where
    out : {more rest' : List Lexeme} {x' : Exp} → Yielded l (sign m (word From) ∷ more) x' rest' → ends_items Whole (next_of rest') ≡ true → Fits 1 x' → ⊥
    out yield_none s f = cc
    out (yield_from {e = e} k) s f = omega (arith, f.0, depth_some e)
    out (yield_some {e = e} k) s f = omega (arith, f.0, depth_some e)

pub some_over : (l : ℕ) (ts : List Lexeme) (t : Lexeme) → next_of ts ≡ Some t → begins_item Whole (Some t) ≡ true → Refused (a_yielded l 1) true ts ts
some_over l ts t h b =
    let w = far_item Whole t b in
    over_refused_at (a_yielded l 1) t ts h (λ more x' rest' k s f. out refl k s f) w.0 (S.yield l (S.given w.1)) (λ z. yield_some (alone (w.2 z))) [] (S.yield l S.absent) (omega arith, omega arith) (λ z. yield_none)
  where
    out : {us more rest' : List Lexeme} {x' : Exp} → us ≡ t ∷ more → Yielded l us x' rest' → ends_items Whole (next_of rest') ≡ true → Fits 1 x' → ⊥
    out e yield_none s f = let g = sym (end_begins_none Whole (Some t) (sym (ap (λ u. ends_items Whole (next_of u)) e) ∙ s)) ∙ b in cc
    out e (yield_from {e = y} k) s f = omega (arith, f.0, depth_some y)
    out e (yield_some {e = y} k) s f = omega (arith, f.0, depth_some y)
