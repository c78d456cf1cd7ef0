-- How the items of a `with` go on behind parentheses that hold expressions, and what is known of what parentheses hold.
use Rattle.std.proofs.Common.{◌≡◌, ◌≢◌, ℕ, ◌<◌, ◌≤◌, ◌⊎◌, List, [], ◌∷◌, ◌++◌, Option, Some, None, Bool, true, false, inl, inr, refl, sym, ◌∙◌, ap, subst, arith, append_assoc}
use Rattle.pt_wide.specs.declared.expression.WideBinOp.{WideBinOp}
use Rattle.pt_wide.specs.Syntax as S
use Rattle.pt_wide.specs.Syntax.{Exp, Exps, Opt, absent, given}
use Rattle.pt_wide.specs.Fold.{all_of}
use Rattle.pt_readers.specs.Reading.{next_of, behind, Part, Alike, Found, Refused, Carries, Within}
use Rattle.pt_readers.proofs.Readers.{Narrows, left, bad_refused, nothing_found, Just, just}
use Rattle.pt_readers.proofs.Pieces.{Through, through}
use Rattle.pt_readers.proofs.Exits.{over_refused_at, at_next}
use Rattle.pt_grammar.specs.declared.part.Part.TheVariants.{Whole}
use Rattle.pt_grammar.specs.declared.sign.Sign.{Sign}
use Rattle.pt_grammar.specs.declared.sign.Sign.TheVariants.{Operator, Comparison, Mark as mark, Word as word, Keyword as keyword}
use Rattle.pt_grammar.specs.declared.sign.Mark.TheVariants.{Open, Close, OpenBracket, Dot, Colon, Comma}
use Rattle.pt_grammar.specs.declared.sign.Word.TheVariants.{And, Or, Not, In, Is as is_word, If, For, Yield}
use Rattle.pt_grammar.specs.declared.sign.Keyword.TheVariants.{As}
use Rattle.pt_grammar.specs.Lexemes.{Lexeme, name, int, str, f_text, unknown, sign, sign_at}
use Rattle.pt_grammar.specs.Signs.{rank_at, rank_of, rank_of_sign, rank_of_lexeme}
use Rattle.pt_grammar.specs.Grammar.{MoreItems, no_comma, last_comma, more_items, starred, unstarred, alone, a_tuple, no_yield, a_yield, Yielded, yield_none, yield_from, yield_some, Binary, Atom, a_string, an_f_string}
use Rattle.pt_grammar.specs.Nodes.{line_of, Listed, OnePiece, string_at}
use Rattle.pt_grammar.specs.Behind.{IsSign, is_sign, Starting, starting, otherwise, by_clauses, InParentheses, followed_end}
use Rattle.pt_grammar.specs.BehindAtom.{OfExpr}
use Rattle.pt_grammar.specs.Parts.{ends_in_text}
use Rattle.pt_grammar.proofs.Begins.{some_name, some_exp, fits_name, name_expr, name_binary, BeginsExpr, expr_begins as starts}
use Rattle.pt_grammar.specs.Behind.{Inside, nothing, something, generated}
use Rattle.pt_grammar.proofs.AtomFirst.{is_operated, Step, Heads, expr_heads, of_expr_step, of_expr_nothing, of_expr_far}
use Rattle.pt_grammar.proofs.OperatorRanks.{rank_small}
use Rattle.pt_parser.specs.Forms.{Reads, Is, is, Then, The, the, Optional, left_out, written, More, no_more, one_more}
use Rattle.pt_parser.specs.Simple.{comma, an_expression, a_place}
use Rattle.pt_parser.specs.Headings.{star_sign}
use Rattle.pt_parser.specs.Limits.{FitsExp}
use Rattle.pt_parser.specs.Targets.{both}
use Rattle.pt_parser.specs.Parts.{Each, with_items}
use Rattle.pt_parser.specs.With.{OneItem, item_of, WithItem, is_plain, are_plain, holds_items, encloses, is_enclosed, FitsItem}
use Rattle.pt_parser.specs.WithLeft.{Rest, Entered, FromAtom, Holding, targeted, plain, only, whole, plain_item, plain_items, Targeted, OfTuple, Starred, BehindExp, with_target, without, Sequel, closes, goes_on, Onward, closes_behind, next_star, next_exp, First, with_clauses, no_clauses, BeginsOnly, at_close, at_yield, at_star, Held, no_items, some_exp as some_held, BehindPlain, as_items, as_atom, BehindHeld, Sound, goes_on_sign, goes_on_at}
use Rattle.pt_parser.proofs.Tokens.{sign_next, not_sign}
use Rattle.pt_parser.proofs.Follow.{Begins}
use Rattle.pt_parser.proofs.WithLemmas.{another, fits_some}
use Rattle.pt_parser.proofs.HeldLemmas.{whole_comma, whole_two, some_snoc, fits_plain, atom_fits}

-- up to the colon
pub all_bad : (xs : List OneItem) (ts : List Lexeme) → Each FitsItem xs → sign_at (next_of ts) ≢ Some (mark Colon) → Refused (left with_items (Is xs)) false ts ts
all_bad xs ts f n = bad_refused (left with_items (Is xs)) ts (λ more a ys rest k m. out (not_sign ts a n) k m) [] xs f (λ z. is)
  where
    out : {more rest : List Lexeme} {ys : List OneItem} → sign_at (next_of more) ≢ Some (mark Colon) → Is xs more ys rest → sign_at (next_of rest) ≡ Some (mark Colon) → ⊥
    out n is m = n m

-- Where the next token goes on with no item, nothing does.
still : (a : Exp) {js : List OneItem} {ts rest : List Lexeme} → rank_at (next_of ts) ≡ 12 → sign_at (next_of ts) ≢ Some (keyword As) → sign_at (next_of ts) ≢ Some comma → FromAtom a ts js rest
    → (rest ≡ ts) × (encloses a ≡ false)
still a {js} {ts} {rest} r p q (e, mid, k, (t, us, o, (m, n))) = led (of_expr_step k)
  where
    more : {t : Opt} {us vs end : List Lexeme} {e : Exp} {ks : List OneItem} → us ≡ ts → e ≡ a → Optional (keyword As) a_place.reads us t vs → More comma WithItem (item_of e t ∷ []) vs ks end → is_enclosed ks ≡ false
        → (end ≡ ts) × (encloses a ≡ false)
    more h g left_out no_more f = (h, ap encloses (sym g) ∙ f)
    more h g left_out (one_more e i k) f = absurd (q (ap (λ u. sign_at (next_of u)) (sym h) ∙ ap (λ u. Some u) e))
    more h g (written e i) k f = absurd (p (ap (λ u. sign_at (next_of u)) (sym h) ∙ ap (λ u. Some u) e))

    led : Step a ts e mid → (rest ≡ ts) × (encloses a ≡ false)
    led (inl h) = more h.1 h.0 o m n
    led (inr g) = absurd (omega (arith, r, g.goes))

module _ (l m : ℕ) (es : List Exp) (b : Bool) where
  abbrev TheAtom : Exp
  TheAtom = S.parenthesized l (whole m es b)

  -- the colon is next
  pub plain_found : (ts : List Lexeme) → sign_at (next_of ts) ≡ Some (mark Colon) → Each FitsExp es → holds_items (whole m es b) ≡ true → Found (left with_items (BehindPlain l m es b)) ts (plain_items es) ts
  plain_found ts h f w = nothing_found (left with_items (BehindPlain l m es b)) ts (plain_items es) (λ more. as_items is) h (fits_plain es f) (λ more a ys rest k n. out a k n)
    where
      clash : {A : Type 0} → encloses TheAtom ≡ false → A
      clash g = let k = sym w ∙ g in cc

      colon_rank : (o : Option Lexeme) → sign_at o ≡ Some (mark Colon) → rank_at o ≡ 12
      colon_rank (Some (sign k s)) e = let g : s ≡ mark Colon = cc in subst (λ u. rank_of_sign u ≡ 12) (sym g) refl
      colon_rank None e = refl
      colon_rank (Some _) e = refl

      at_colon : {more rest : List Lexeme} {ys : List OneItem} → sign_at (next_of more) ≡ Some (mark Colon) → FromAtom TheAtom more ys rest → encloses TheAtom ≡ false
      at_colon {more} e k = (still TheAtom (colon_rank (next_of more) e) (λ g. let j = sym e ∙ g in cc) (λ g. let j = sym e ∙ g in cc) k).1

      no_more_rest : {more rest : List Lexeme} {ys : List OneItem} → more ≡ [] → FromAtom TheAtom more ys rest → sign_at (next_of rest) ≡ Some (mark Colon) → ⊥
      no_more_rest {more} e k n =
          let s = still TheAtom (ap (λ u. rank_at (next_of u)) e) (λ g. let j = sym (ap (λ u. sign_at (next_of u)) e) ∙ g in cc) (λ g. let j = sym (ap (λ u. sign_at (next_of u)) e) ∙ g in cc) k in
          let j = sym (ap (λ u. sign_at (next_of u)) (s.0 ∙ e)) ∙ n in cc

      out : {more rest : List Lexeme} {ys : List OneItem} → Alike more ts → BehindPlain l m es b more ys rest → sign_at (next_of rest) ≡ Some (mark Colon) → (ys ≡ plain_items es) × (rest ≡ more)
      out a (as_items is) n = (refl, refl)
      out (inl e) (as_atom k) n = clash (at_colon (ap sign_at e ∙ h) k)
      out (inr e) (as_atom k) n = absurd (no_more_rest e k n)

  -- neither the colon nor what goes on with an item is next
  still_at : (o : Option Lexeme) → goes_on_at (sign_at o) ≡ false → (rank_at o ≡ 12) × (sign_at o ≢ Some (keyword As)) × (sign_at o ≢ Some comma)
  still_at None h = (refl, λ e. cc, λ e. cc)
  still_at (Some (sign k (mark Dot))) h = cc
  still_at (Some (sign k (mark Open))) h = cc
  still_at (Some (sign k (mark OpenBracket))) h = cc
  still_at (Some (sign k (mark Comma))) h = cc
  still_at (Some (sign k (Operator o))) h = cc
  still_at (Some (sign k (Comparison o))) h = cc
  still_at (Some (sign k (word And))) h = cc
  still_at (Some (sign k (word Or))) h = cc
  still_at (Some (sign k (word Not))) h = cc
  still_at (Some (sign k (word In))) h = cc
  still_at (Some (sign k (word is_word))) h = cc
  still_at (Some (sign k (word If))) h = cc
  still_at (Some (sign k (keyword As))) h = cc
  still_at (Some _) h = (refl, λ e. cc, λ e. cc)

  pub plain_bad : (ts : List Lexeme) → sign_at (next_of ts) ≢ Some (mark Colon) → goes_on_at (sign_at (next_of ts)) ≡ false → Each FitsExp es → Refused (left with_items (BehindPlain l m es b)) false ts ts
  plain_bad ts n g f = bad_refused (left with_items (BehindPlain l m es b)) ts (λ more a ys rest k s. out a k s) [] (plain_items es) (fits_plain es f) (λ z. as_items is)
    where
      looks : {more : List Lexeme} → Alike more ts → goes_on_at (sign_at (next_of more)) ≡ false
      looks (inl e) = ap (λ u. goes_on_at (sign_at u)) e ∙ g
      looks (inr e) = ap (λ u. goes_on_at (sign_at (next_of u))) e

      out : {more rest : List Lexeme} {ys : List OneItem} → Alike more ts → BehindPlain l m es b more ys rest → sign_at (next_of rest) ≡ Some (mark Colon) → ⊥
      out a (as_items is) s = not_sign ts a n s
      out {more} a (as_atom k) s = let t = still_at (next_of more) (looks a) in let u = still TheAtom t.0 t.1 t.2 k in not_sign ts a n (ap (λ v. sign_at (next_of v)) (sym u.0) ∙ s)

  abbrev Beyond : Lexeme → Type 0
  Beyond t = (w : List Lexeme) × (ys : List OneItem) × ((z : List Lexeme) → BehindPlain l m es b (t ∷ (w ++ z)) ys z)

  -- another token than the colon is next
  pub plain_narrows : (ts : List Lexeme) → sign_at (next_of ts) ≢ Some (mark Colon) → Narrows ts (left with_items (FromAtom TheAtom)) (left with_items (BehindPlain l m es b))
  plain_narrows ts n = record { into = λ more ys rest k. as_atom k; out = λ more ys rest a k s. (out (not_sign ts a n) k s, s); stop = λ ys o s. s; up = λ ys f. f; down = λ ys f. f }
    where
      out : {more rest : List Lexeme} {ys : List OneItem} → sign_at (next_of more) ≢ Some (mark Colon) → BehindPlain l m es b more ys rest → sign_at (next_of rest) ≡ Some (mark Colon) → FromAtom TheAtom more ys rest
      out p (as_items is) s = absurd (p s)
      out p (as_atom k) s = k

  -- What goes on is beyond the limits.
  pub plain_over : (ts : List Lexeme) → goes_on_at (sign_at (next_of ts)) ≡ true → sign_at (next_of ts) ≢ Some (mark Colon) → Each FitsExp es → (FitsExp (whole m es b) → ⊥)
      → Refused (left with_items (BehindPlain l m es b)) true ts ts
  plain_over ts g n f over = at_token (next_of ts) refl
    where
      dead : (t : Lexeme) → next_of ts ≡ Some t → {more rest : List Lexeme} {ys : List OneItem} → BehindPlain l m es b (t ∷ more) ys rest → sign_at (next_of rest) ≡ Some (mark Colon) → Each FitsItem ys → ⊥
      dead t h (as_items is) s w = n (ap sign_at h ∙ s)
      dead t h (as_atom k) s w = over (atom_fits TheAtom k w)

      by_expr : (t : Lexeme) → rank_of_lexeme t ≤ 11 → Beyond t
      by_expr t r =
          let k = of_expr_far TheAtom t r in
          (k.0 ++ (sign 0 comma ∷ (some_name ∷ [])), (item_of k.1 absent ∷ []) ++ (item_of some_exp absent ∷ []), λ z. as_atom (k.1, sign 0 comma ∷ (some_name ∷ z), rw append_assoc (k.2 (sign 0 comma ∷ (some_name ∷ z))), (_, _, left_out, another {xs = item_of k.1 absent ∷ []} z (λ e. cc))))

      operator_small : (o : WideBinOp) → rank_of o ≤ 11
      operator_small o = omega (arith, (rank_small o).1)

      beyond : (k : ℕ) (s : Sign) → goes_on_sign s ≡ true → Beyond (sign k s)
      beyond k (mark Comma) h = (some_name ∷ [], (item_of TheAtom absent ∷ []) ++ (item_of some_exp absent ∷ []), λ z. as_atom (_, _, of_expr_nothing, (_, _, left_out, another {xs = item_of TheAtom absent ∷ []} z (λ e. cc))))
      beyond k (keyword As) h = (some_name ∷ [], item_of TheAtom (given some_exp) ∷ [], λ z. as_atom (_, _, of_expr_nothing, (_, _, written refl (name_binary 6), (no_more, refl))))
      beyond k (mark Dot) h = by_expr (sign k (mark Dot)) (omega arith)
      beyond k (mark Open) h = by_expr (sign k (mark Open)) (omega arith)
      beyond k (mark OpenBracket) h = by_expr (sign k (mark OpenBracket)) (omega arith)
      beyond k (Operator o) h = by_expr (sign k (Operator o)) (operator_small o)
      beyond k (Comparison o) h = by_expr (sign k (Comparison o)) (omega arith)
      beyond k (word And) h = by_expr (sign k (word And)) (omega arith)
      beyond k (word Or) h = by_expr (sign k (word Or)) (omega arith)
      beyond k (word Not) h = by_expr (sign k (word Not)) (omega arith)
      beyond k (word In) h = by_expr (sign k (word In)) (omega arith)
      beyond k (word is_word) h = by_expr (sign k (word is_word)) (omega arith)
      beyond k (word If) h = by_expr (sign k (word If)) (omega arith)
      beyond k _ h = cc

      at_token : (o : Option Lexeme) → next_of ts ≡ o → Refused (left with_items (BehindPlain l m es b)) true ts ts
      at_token None h = let k = sym g ∙ ap (λ u. goes_on_at (sign_at u)) h in cc
      at_token (Some (sign k s)) h =
          let v = beyond k s (sym (ap (λ u. goes_on_at (sign_at u)) h) ∙ g) in
          over_refused_at (left with_items (BehindPlain l m es b)) (sign k s) ts h (λ more ys rest j p w. dead (sign k s) h j p w) v.0 v.1 v.2 [] (plain_items es) (fits_plain es f) (λ z. as_items is)
      at_token (Some _) h = let k = sym g ∙ ap (λ u. goes_on_at (sign_at u)) h in cc

-- What an expression is as an item.
string_plain : (l : ℕ) (b : Bool) (ps : List OnePiece) → (is_plain (string_at l b ps) ≡ true) × (holds_items (string_at l b ps) ≡ true)
string_plain l true ps = (refl, refl)
string_plain l false ps = (refl, refl)

atom_plain : {ts rest : List Lexeme} {e : Exp} → Atom ts e rest → (is_plain e ≡ true) × (holds_items e ≡ true)
atom_plain (a_string {l = l} {q = q} k) = string_plain l q.formatted q.pieces
atom_plain (an_f_string {l = l} {q = q} k j) = string_plain l q.formatted q.pieces
atom_plain _ = (refl, refl)

operated_plain : (e : Exp) → is_operated e ≡ true → (is_plain e ≡ true) × (holds_items e ≡ true)
operated_plain (S.attribute l a x) h = (refl, refl)
operated_plain (S.item l a i) h = (refl, refl)
operated_plain (S.call l f args) h = (refl, refl)
operated_plain (S.unary l o a) h = (refl, refl)
operated_plain (S.not_of l a) h = (refl, refl)
operated_plain (S.binary l o a b) h = (refl, refl)
operated_plain (S.compare l a o b r) h = (refl, refl)
operated_plain (S.and l a es) h = (refl, refl)
operated_plain (S.or l a es) h = (refl, refl)
operated_plain (S.conditional l c a b) h = (refl, refl)
operated_plain (S.lambda l ps e) h = (refl, refl)
operated_plain _ h = cc

pub expr_holds : {ts rest : List Lexeme} {e : Exp} → an_expression.reads ts e rest → (is_plain e ≡ true) × (holds_items e ≡ true)
expr_holds {ts} {rest} {e} q = led (expr_heads q)
  where
    stepped : {a : Exp} {mid : List Lexeme} → Atom ts a mid → Step a mid e rest → (is_plain e ≡ true) × (holds_items e ≡ true)
    stepped x (inl h) = subst (λ u. (is_plain u ≡ true) × (holds_items u ≡ true)) (sym h.0) (atom_plain x)
    stepped x (inr g) = operated_plain e g.node

    led : Heads OfExpr ts e rest → (is_plain e ≡ true) × (holds_items e ≡ true)
    led (inl k) = stepped k.2 (of_expr_step k.3)
    led (inr k) = operated_plain e k.0

both_plain : (b c : Bool) → both b c ≡ true → (b ≡ true) × (c ≡ true)
both_plain true c h = (refl, h)
both_plain false c h = cc

plain_both : (b c : Bool) → b ≡ true → c ≡ true → both b c ≡ true
plain_both true c h g = g
plain_both false c h g = cc

both_unplain : (b c d : Bool) → (c ≡ false → d ≡ false) → both b c ≡ false → both b d ≡ false
both_unplain true c d f h = f h
both_unplain false c d f h = refl

unplain_both : (b d : Bool) → d ≡ false → both b d ≡ false
unplain_both true d h = h
unplain_both false d h = refl

plain_snoc : (es : List Exp) (e : Exp) → are_plain (all_of es) ≡ true → is_plain e ≡ true → are_plain (all_of (es ++ (e ∷ []))) ≡ true
plain_snoc [] e h g = plain_both (is_plain e) true g refl
plain_snoc (d ∷ es) e h g = let p = both_plain (is_plain d) (are_plain (all_of es)) h in plain_both (is_plain d) _ p.0 (plain_snoc es e p.1 g)

starred_snoc : (es : List Exp) (k : ℕ) (e : Exp) → are_plain (all_of (es ++ (S.starred k e ∷ []))) ≡ false
starred_snoc [] k e = refl
starred_snoc (d ∷ es) k e = unplain_both (is_plain d) _ (starred_snoc es k e)

unplain_snoc : (es : List Exp) (e : Exp) → are_plain (all_of es) ≡ false → are_plain (all_of (es ++ (e ∷ []))) ≡ false
unplain_snoc [] e h = cc
unplain_snoc (d ∷ es) e h = both_unplain (is_plain d) (are_plain (all_of es)) _ (λ g. unplain_snoc es e g) h

unplain_more : (es : List Exp) {x : Listed} {ts rest : List Lexeme} → are_plain (all_of es) ≡ false → MoreItems Whole es ts x rest → are_plain (all_of x.items) ≡ false
unplain_more es h no_comma = h
unplain_more es h last_comma = h
unplain_more es h (more_items {e = e} q k) = unplain_more (es ++ (e ∷ [])) (unplain_snoc es e h) k

unplain_holds : (m : ℕ) (es : Exps) → are_plain es ≡ false → holds_items (S.tuple m es) ≡ false
unplain_holds m S.no_exps h = refl
unplain_holds m (S.more_exps e es) h = h

plain_holds : (m : ℕ) (es : List Exp) → es ≢ [] → are_plain (all_of es) ≡ true → holds_items (S.tuple m (all_of es)) ≡ true
plain_holds m [] n h = absurd (n refl)
plain_holds m (e ∷ es) n h = h

-- what is no items holds none
yield_holds : {l : ℕ} {ts rest : List Lexeme} {e : Exp} → Yielded l ts e rest → holds_items e ≡ false
yield_holds yield_none = refl
yield_holds (yield_from q) = refl
yield_holds (yield_some q) = refl

pub only_no_expr : {t : Lexeme} {ts rest : List Lexeme} {e : Exp} → BeginsOnly t → an_expression.reads (t ∷ ts) e rest → ⊥
only_no_expr j q = none j (starts q)
  where
    none : {t : Lexeme} → BeginsOnly t → BeginsExpr (Some t) → ⊥
    none at_close (inl (inl (inl b))) = b
    none at_close (inl (inl (inr n))) = n refl
    none at_close (inl (inr (m, h))) = cc
    none at_close (inr (m, h)) = cc
    none at_yield (inl (inl (inl b))) = b
    none at_yield (inl (inl (inr n))) = n refl
    none at_yield (inl (inr (m, h))) = cc
    none at_yield (inr (m, h)) = cc
    none at_star (inl (inl (inl b))) = b
    none at_star (inl (inl (inr n))) = n refl
    none at_star (inl (inr (m, h))) = cc
    none at_star (inr (m, h)) = cc

targets_sound : (es : List Exp) (e : Exp) {c : Holding} {ts rest : List Lexeme} → Targeted es e ts c rest → Sound c
targets_sound es e (t, us, p, (js, vs, u, is)) = tt

star_sound : (l m k : ℕ) (es : List Exp) {c : Holding} {ts rest : List Lexeme} → Starred l m k es ts c rest → Sound c
star_sound l m k es (e, us, q, (x, vs, p, (j, ws, h, is))) = (refl, unplain_holds m (all_of x.items) (unplain_more (es ++ (S.starred k e ∷ [])) (starred_snoc es k e) p))

only_sound : (l : ℕ) {a : Exp} {ts rest : List Lexeme} → Starting BeginsOnly (Inside l) ts a rest → Sound (only a)
only_sound l (starting j nothing) = (refl, refl)
only_sound l (starting j (something (a_yield k))) = (refl, yield_holds k)
only_sound l (starting j (something (no_yield (alone (starred q))))) = (refl, refl)
only_sound l (starting j (something (no_yield (a_tuple {l = k} {x = x} (starred {l = i} {e = e} q) p)))) = (refl, unplain_holds i (all_of x.items) (unplain_more (S.starred i e ∷ []) refl p))
only_sound l (starting j (something (no_yield (alone (unstarred q))))) = absurd (only_no_expr j q)
only_sound l (starting j (something (no_yield (a_tuple (unstarred q) p)))) = absurd (only_no_expr j q)
only_sound l (starting j (generated q k)) = absurd (only_no_expr j q)

for_sound : (l : ℕ) {e a : Exp} {ts rest : List Lexeme} → Starting (IsSign (word For)) (InParentheses l e) ts a rest → Sound (only a)
for_sound l (starting is_sign (by_clauses r (cs, vs, k, through is_sign just))) = (refl, refl)
for_sound l (starting is_sign (otherwise (y, vs, followed_end, through j just))) = absurd (clash j)
  where
    other : {t : Lexeme} {s : Sign} → IsSign s t → sign_at (Some t) ≡ Some s
    other is_sign = refl

    clash : {k : ℕ} → IsSign (mark Close) (sign k (word For)) → ⊥
    clash j = let h = other j in cc

mutual
  exp_sound : (l m : ℕ) (es : List Exp) (e : Exp) → are_plain (all_of (es ++ (e ∷ []))) ≡ true → holds_items (whole m (es ++ (e ∷ [])) false) ≡ true → {c : Holding} {ts rest : List Lexeme} → BehindExp l m es e ts c rest → Sound c
  exp_sound l m es e p h (with_target d) = targets_sound es e d
  exp_sound l m es e p h (without s) = sequel_sound l m (es ++ (e ∷ [])) (some_snoc es e) p h s

  sequel_sound : (l m : ℕ) (es : List Exp) → es ≢ [] → are_plain (all_of es) ≡ true → holds_items (whole m es false) ≡ true → {c : Holding} {ts rest : List Lexeme} → Sequel l m es ts c rest → Sound c
  sequel_sound l m es n p h closes = (n, h)
  sequel_sound l m es n p h (goes_on o) = onward_sound l m es n p o

  onward_sound : (l m : ℕ) (es : List Exp) → es ≢ [] → are_plain (all_of es) ≡ true → {c : Holding} {ts rest : List Lexeme} → Onward l m es ts c rest → Sound c
  onward_sound l m es n p closes_behind = (n, ap holds_items (whole_comma m es) ∙ plain_holds m es n p)
  onward_sound l m es n p (next_star {k = k} d) = star_sound l m k es d
  onward_sound l m es n p (next_exp {e = e} q k) =
      let g = plain_snoc es e p (expr_holds q).0 in
      exp_sound l m es e g (ap holds_items (whole_two m es e n) ∙ plain_holds m (es ++ (e ∷ [])) (some_snoc es e) g) k

pub held_sound : (l : ℕ) {c : Holding} {ts rest : List Lexeme} → Held l ts c rest → Sound c
held_sound l (no_items k) = only_sound l k
held_sound l (some_held q (with_clauses k)) = for_sound l k
held_sound l (some_held {e = e} q (no_clauses k)) = let h = expr_holds q in exp_sound l (line_of e) [] e (rw h.0 refl) h.1 k
