-- What parentheses hold with which the items of a `with` begin, and how the items go on behind it.
use Rattle.std.proofs.Common.{◌≡◌, ◌≢◌, ℕ, ◌<◌, ◌≤◌, ◌⊎◌, List, [], ◌∷◌, ◌++◌, Option, Some, None, Bool, true, false, inl, inr, refl, sym, ◌∙◌, ap, subst, arith, map, length, reverse}
use Rattle.std.proofs.lemmas.List.{map-append, reverse-append}
use Rattle.pt_wide.specs.Syntax as S
use Rattle.pt_wide.specs.Syntax.{Exp, Opt, absent, given}
use Rattle.pt_wide.specs.Fold.{all_of}
use Rattle.pt_wide.specs.Measure.{depth_all, width_all, count_exps}
use Rattle.pt_readers.specs.Reading.{next_of, behind, Part, Alike, Found, Refused, Carries, Within}
use Rattle.pt_readers.proofs.Readers.{Binds, Shifts, Narrows, left, bad_refused, nothing_found, Just, just}
use Rattle.pt_readers.proofs.Pieces.{Through, through}
use Rattle.pt_grammar.specs.declared.part.Part.TheVariants.{Whole}
use Rattle.pt_grammar.specs.declared.sign.Sign.{Sign}
use Rattle.pt_grammar.specs.declared.sign.Sign.TheVariants.{Mark as mark, Word as word, Keyword as keyword}
use Rattle.pt_grammar.specs.declared.sign.Mark.TheVariants.{Open, Close, Colon, Comma}
use Rattle.pt_grammar.specs.declared.sign.Word.TheVariants.{For, Yield}
use Rattle.pt_grammar.specs.declared.sign.Keyword.TheVariants.{As}
use Rattle.pt_grammar.specs.Lexemes.{Lexeme, sign, sign_at}
use Rattle.pt_grammar.specs.Grammar.{MoreItems, no_comma, last_comma, more_items, starred, unstarred, alone, a_tuple, no_yield, a_yield, Bare, Binary}
use Rattle.pt_grammar.specs.Nodes.{line_of, Listed, listed}
use Rattle.pt_grammar.specs.Behind.{IsSign, is_sign, Starting, starting, followed_end, followed_more, otherwise, by_clauses, InParentheses, generator_of}
use Rattle.pt_grammar.specs.BehindAtom.{OfExpr}
use Rattle.pt_grammar.specs.Parts.{max_items}
use Rattle.pt_grammar.proofs.Begins.{some_name, some_exp, fits_name, name_expr}
use Rattle.pt_grammar.proofs.Items.{expr_plain, items_list}
use Rattle.pt_grammar.specs.Behind.{Inside, nothing, something, generated}
use Rattle.pt_grammar.proofs.AtomFirst.{Step, of_expr_step, of_expr_nothing}
use Rattle.pt_parser.specs.Forms.{Reads, Is, is, Then, The, the, Optional, left_out, written, UpTo, closed, separated, Onward as OnwardItem, closed_behind, item}
use Rattle.pt_parser.specs.Simple.{comma, an_expression, a_place, max_depth}
use Rattle.pt_parser.specs.Limits.{FitsExp, FitsOpt}
use Rattle.pt_parser.specs.Headings.{star_sign}
use Rattle.pt_parser.specs.Parts.{Each, with_items, a_with_item}
use Rattle.pt_parser.specs.With.{OneItem, item_of, WithItem, Enclosed, FitsItem}
use Rattle.pt_parser.specs.WithLeft.{Rest, Entered, FromAtom, Opened, of_items, of_atom, Holding, targeted, plain, only, whole, plain_item, plain_items, Targeted, OfTuple, Starred, BehindExp, with_target, without, Sequel, closes, goes_on, Onward, closes_behind, next_star, next_exp, First, with_clauses, no_clauses, BeginsOnly, at_close, at_yield, at_star, Held, no_items, some_exp as some_held, BehindPlain, as_items, as_atom, BehindHeld, FitsHeld, what_is_held}
use Rattle.pt_parser.proofs.WithLemmas.{entered_fits, atom_binds}

-- the expressions are a tuple
pub whole_comma : (m : ℕ) (es : List Exp) → whole m es true ≡ S.tuple m (all_of es)
whole_comma m [] = refl
whole_comma m (e ∷ []) = refl
whole_comma m (e ∷ (f ∷ es)) = refl

pub whole_two : (m : ℕ) (es : List Exp) (e : Exp) → es ≢ [] → whole m (es ++ (e ∷ [])) false ≡ S.tuple m (all_of (es ++ (e ∷ [])))
whole_two m [] e n = absurd (n refl)
whole_two m (d ∷ []) e n = refl
whole_two m (d ∷ (f ∷ es)) e n = refl

pub some_snoc : (es : List Exp) (e : Exp) → es ++ (e ∷ []) ≢ []
some_snoc [] e h = cc
some_snoc (d ∷ es) e h = cc

plain_snoc : (es : List Exp) (e : Exp) → plain_items (es ++ (e ∷ [])) ≡ plain_items es ++ (plain_item e ∷ [])
plain_snoc [] e = refl
plain_snoc (d ∷ es) e = ap (λ u. plain_item d ∷ u) (plain_snoc es e)

module _ (l m : ℕ) where
  -- what is held, and what follows
  abbrev Both : (List Lexeme → Holding → List Lexeme → Type 0) → List Lexeme → List OneItem → List Lexeme → Type 0
  Both K ts js rest = (c : Holding) × (mid : List Lexeme) × K ts c mid × BehindHeld l c mid js rest

  targeted_behind : (es : List Exp) (k : ℕ) {s : Sign} {e : Exp} {c : Holding} {ts rest : List Lexeme} → s ≡ keyword As → Targeted es e ts c rest → BehindExp l m es e (sign k s ∷ ts) c rest
  targeted_behind es k {e = e} {c = c} {ts = ts} {rest = rest} g d = subst (λ u. BehindExp l m es e (sign k u ∷ ts) c rest) (sym g) (with_target d)

  mutual
    upto_sequel : (es : List Exp) {xs is : List OneItem} {ts rest : List Lexeme} → xs ≡ plain_items es → UpTo comma (mark Close) WithItem xs ts is rest → Both (Sequel l m es) ts is rest
    upto_sequel es {ts = ts} {rest = rest} h (closed {l = k} {rest = us} e) =
        (plain m es false, us, subst (λ u. Sequel l m es (sign k u ∷ us) (plain m es false) us) (sym e) closes, as_items (subst (λ u. Is (plain_items es) us u us) (sym h) is))
    upto_sequel es {is = js} {rest = rest} h (separated {l = k} {ts = us} e o) =
        let b = upto_onward es h o in
        (b.0, b.1, subst (λ u. Sequel l m es (sign k u ∷ us) b.0 b.1) (sym e) (goes_on b.2), b.3)

    upto_onward : (es : List Exp) {xs is : List OneItem} {ts rest : List Lexeme} → xs ≡ plain_items es → OnwardItem comma (mark Close) WithItem xs ts is rest → Both (Onward l m es) ts is rest
    upto_onward es h (closed_behind {l = k} {rest = us} e) =
        (plain m es true, us, subst (λ u. Onward l m es (sign k u ∷ us) (plain m es true) us) (sym e) closes_behind, as_items (subst (λ u. Is (plain_items es) us u us) (sym h) is))
    upto_onward es h (item {mid = mid} (e, us, q, (absent, vs, left_out, is)) u) =
        let b = upto_sequel (es ++ (e ∷ [])) (ap (λ v. v ++ (plain_item e ∷ [])) h ∙ sym (plain_snoc es e)) u in
        (b.0, b.1, next_exp q (without b.2), b.3)
    upto_onward es {is = js} {rest = rest} h (item {mid = mid} (e, us, q, (given t, vs, written {l = k} g p, is)) u) =
        (targeted js, rest, next_exp q (targeted_behind es k g (_, _, p, (_, _, subst (λ v. UpTo comma (mark Close) WithItem (v ++ (item_of e (given t) ∷ [])) mid js rest) h u, is))), is)

  -- the same of a tuple
  tuple_sequel : (es : List Exp) → es ≢ [] → {x : Listed} {is : List OneItem} {j : ℕ} {us mid rest : List Lexeme} → MoreItems Whole es us x (sign j (mark Close) ∷ mid)
      → (sign_at (next_of us) ≡ Some (mark Close) → whole m es false ≡ S.tuple m (all_of es)) → FromAtom (S.parenthesized l (S.tuple m (all_of x.items))) mid is rest → Both (Sequel l m es) us is rest
  tuple_sequel es n {is = js} {mid = mid} {rest = rest} no_comma h a = (plain m es false, mid, closes, as_atom (subst (λ u. FromAtom (S.parenthesized l u) mid js rest) (sym (h refl)) a))
  tuple_sequel es n {is = js} {mid = mid} {rest = rest} last_comma h a = (plain m es true, mid, goes_on closes_behind, as_atom (subst (λ u. FromAtom (S.parenthesized l u) mid js rest) (sym (whole_comma m es)) a))
  tuple_sequel es n (more_items (starred q) k) h a = (only _, _, goes_on (next_star (_, _, q, (_, _, k, (_, _, the refl, is)))), a)
  tuple_sequel es n (more_items {e = e} (unstarred q) k) h a =
      let b = tuple_sequel (es ++ (e ∷ [])) (some_snoc es e) k (λ g. whole_two m es e n) a in (b.0, b.1, goes_on (next_exp q (without b.2)), b.3)

  -- What parentheses hold is items or the inside of an atom.
  data TupleOf (es : List Exp) : List Lexeme → Exp → List Lexeme → Type 0 where
    to_close : {k : ℕ} {rest : List Lexeme} → TupleOf es (sign k (mark Close) ∷ rest) (whole m es false) rest
    to_comma : {k j : ℕ} {x : Listed} {ts rest : List Lexeme} → MoreItems Whole es (sign k comma ∷ ts) x (sign j (mark Close) ∷ rest) → TupleOf es (sign k comma ∷ ts) (S.tuple m (all_of x.items)) rest

  abbrev Either : List Exp → List Lexeme → List OneItem → List Lexeme → Type 0
  Either es ts js rest = UpTo comma (mark Close) WithItem (plain_items es) ts js rest ⊎ ((a : Exp) × (mid : List Lexeme) × TupleOf es ts a mid × FromAtom (S.parenthesized l a) mid js rest)

  -- behind an item with a target there are items alone
  targeted_items : (es : List Exp) {e : Exp} {c : Holding} (js : List OneItem) {k : ℕ} {ts us mid : List Lexeme} (rest : List Lexeme) → an_expression.reads us e (sign k (keyword As) ∷ ts) → Targeted es e ts c mid
      → BehindHeld l c mid js rest → OnwardItem comma (mark Close) WithItem (plain_items es) us js rest
  targeted_items es js rest q (t, vs, p, (ks, ws, u, is)) is = item (_, _, q, (_, _, written refl p, is)) u

  starred_either : (es : List Exp) {js : List OneItem} {k i j : ℕ} {e : Exp} {x : Listed} {s : Sign} {ts us mid rest : List Lexeme} → Binary 6 ts e us → MoreItems Whole (es ++ (S.starred i e ∷ [])) us x (sign j s ∷ mid) → s ≡ mark Close
      → FromAtom (S.parenthesized l (S.tuple m (all_of x.items))) mid js rest → Either es (sign k comma ∷ (sign i star_sign ∷ ts)) js rest
  starred_either es {i = i} {j = j} {e = e} {x = x} {us = us} {mid = mid} q k h b =
      inr (_, _, to_comma (more_items (starred q) (subst (λ u. MoreItems Whole (es ++ (S.starred i e ∷ [])) us x (sign j u ∷ mid)) h k)), b)

  exp_either : (es : List Exp) → es ≢ [] → {is : List OneItem} {e : Exp} {k : ℕ} {ts us rest : List Lexeme} → an_expression.reads ts e us → Either (es ++ (e ∷ [])) us is rest → Either es (sign k comma ∷ ts) is rest
  exp_either es n {is = js} {e = e} {us = us} {rest = rest} q (inl u) =
      inl (separated refl (item (_, _, q, (_, _, left_out, is)) (subst (λ v. UpTo comma (mark Close) WithItem v us js rest) (plain_snoc es e) u)))
  exp_either es n {is = js} {e = e} {rest = rest} q (inr (a, mid, to_close, b)) =
      inr (_, _, to_comma {x = listed (es ++ (e ∷ [])) false} (more_items (unstarred q) no_comma), subst (λ u. FromAtom (S.parenthesized l u) mid js rest) (whole_two m es e n) b)
  exp_either es n q (inr (a, mid, to_comma k, b)) = inr (_, _, to_comma (more_items (unstarred q) k), b)

  mutual
    sequel_either : (es : List Exp) → es ≢ [] → {c : Holding} (js : List OneItem) {ts mid : List Lexeme} (rest : List Lexeme) → Sequel l m es ts c mid → BehindHeld l c mid js rest → Either es ts js rest
    sequel_either es n js rest closes (as_items is) = inl (closed refl)
    sequel_either es n js rest closes (as_atom a) = inr (_, _, to_close, a)
    sequel_either es n js rest (goes_on o) b = onward_either es n js rest o b

    onward_either : (es : List Exp) → es ≢ [] → {c : Holding} (js : List OneItem) {k : ℕ} {ts mid : List Lexeme} (rest : List Lexeme) → Onward l m es ts c mid → BehindHeld l c mid js rest → Either es (sign k comma ∷ ts) js rest
    onward_either es n js rest closes_behind (as_items is) = inl (separated refl (closed_behind refl))
    onward_either es n js {mid = mid} rest closes_behind (as_atom a) =
        inr (_, _, to_comma {x = listed es true} last_comma, subst (λ u. FromAtom (S.parenthesized l u) mid js rest) (whole_comma m es) a)
    onward_either es n js rest (next_star (e, us, q, (x, vs, k, (j, ws, the h, is)))) b = starred_either es q k h b
    onward_either es n js rest (next_exp q (with_target d)) b = inl (separated refl (targeted_items es js rest q d b))
    onward_either es n js rest (next_exp {e = e} q (without s)) b = exp_either es n q (sequel_either (es ++ (e ∷ [])) (some_snoc es e) js rest s b)

-- at the first expression
first_opened : (l : ℕ) {is : List OneItem} {e : Exp} {ts us rest : List Lexeme} → an_expression.reads ts e us → Either l (line_of e) (e ∷ []) us is rest → Opened l ts is rest
first_opened l q (inl u) = of_items (_, _, (_, _, q, (_, _, left_out, is)), u)
first_opened l q (inr (a, mid, to_close, b)) = of_atom (_, _, something (no_yield (alone (unstarred q))), b)
first_opened l q (inr (a, mid, to_comma k, b)) = of_atom (_, _, something (no_yield (a_tuple (unstarred q) k)), b)

generated_opened : (l : ℕ) {e a : Exp} {ts us mid : List Lexeme} → an_expression.reads ts e us → Starting (IsSign (word For)) (InParentheses l e) us a mid → Inside l ts a mid
generated_opened l q (starting is_sign (by_clauses r (cs, vs, starting is_sign k, through is_sign just))) = generated q k
generated_opened l q (starting is_sign (otherwise (y, vs, followed_end, through j just))) = absurd (clash j)
  where
    other : {t : Lexeme} {s : Sign} → IsSign s t → sign_at (Some t) ≡ Some s
    other is_sign = refl

    clash : {k : ℕ} → IsSign (mark Close) (sign k (word For)) → ⊥
    clash j = let h = other j in cc

held_opened : (l : ℕ) {c : Holding} (js : List OneItem) {ts mid : List Lexeme} (rest : List Lexeme) → Held l ts c mid → BehindHeld l c mid js rest → Opened l ts js rest
held_opened l js rest (no_items (starting j k)) b = of_atom (_, _, k, b)
held_opened l js rest (some_held q (with_clauses k)) b = of_atom (_, _, generated_opened l q k, b)
held_opened l js rest (some_held {e = e} q (no_clauses (with_target d))) b = targets js rest q d b
  where
    targets : {c : Holding} (js : List OneItem) {k : ℕ} {ts us mid : List Lexeme} (rest : List Lexeme) → an_expression.reads us e (sign k (keyword As) ∷ ts) → Targeted [] e ts c mid → BehindHeld l c mid js rest → Opened l us js rest
    targets js rest q (t, vs, p, (ks, ws, u, is)) is = of_items (_, _, (_, _, q, (_, _, written refl p, is)), u)
held_opened l js rest (some_held {e = e} q (no_clauses (without s))) b = first_opened l q (sequel_either l (line_of e) (e ∷ []) (λ h. cc) js rest s b)

-- and the other way round
opened_held : (l : ℕ) {is : List OneItem} {ts rest : List Lexeme} → Opened l ts is rest → (c : Holding) × (mid : List Lexeme) × Held l ts c mid × BehindHeld l c mid is rest
opened_held l (of_items k) = items k.2 k.3
  where
    plain_first : {e : Exp} {is : List OneItem} {ts us rest : List Lexeme} → an_expression.reads ts e us → UpTo comma (mark Close) WithItem (plain_item e ∷ []) us is rest
        → (c : Holding) × (mid : List Lexeme) × Held l ts c mid × BehindHeld l c mid is rest
    plain_first {e} q u = let b = upto_sequel l (line_of e) (e ∷ []) refl u in (b.0, b.1, some_held q (no_clauses (without b.2)), b.3)

    items : {i : OneItem} {is : List OneItem} {ts mid rest : List Lexeme} → WithItem ts i mid → UpTo comma (mark Close) WithItem (i ∷ []) mid is rest → (c : Holding) × (mid : List Lexeme) × Held l ts c mid × BehindHeld l c mid is rest
    items (e, us, q, (absent, vs, left_out, is)) u = plain_first q u
    items {is = js} {rest = rest} (e, us, q, (given t, vs, written {l = k} g p, is)) u =
        (targeted js, rest, some_held q (no_clauses (targeted_behind l (line_of e) [] k g (_, _, p, (_, _, u, is)))), is)
opened_held l (of_atom k) = atom k.2 k.3
  where
    atom : {a : Exp} {is : List OneItem} {ts mid rest : List Lexeme} → Inside l ts a mid → FromAtom a mid is rest → (c : Holding) × (mid : List Lexeme) × Held l ts c mid × BehindHeld l c mid is rest
    atom nothing b = (only _, _, no_items (starting at_close nothing), b)
    atom (something (a_yield k)) b = (only _, _, no_items (starting at_yield (something (a_yield k))), b)
    atom (something (no_yield (alone (starred q)))) b = (only _, _, no_items (starting at_star (something (no_yield (alone (starred q))))), b)
    atom (something (no_yield (a_tuple (starred q) k))) b = (only _, _, no_items (starting at_star (something (no_yield (a_tuple (starred q) k)))), b)
    atom (something (no_yield (alone {e = e} (unstarred q)))) b = (plain (line_of e) (e ∷ []) false, _, some_held q (no_clauses (without closes)), as_atom b)
    atom (something (no_yield (a_tuple {e = e} (unstarred q) k))) b =
        let c = tuple_sequel l (line_of e) (e ∷ []) (λ h. cc) k (λ h. cc) b in (c.0, c.1, some_held q (no_clauses (without c.2)), c.3)
    atom (generated {e = e} q k) b = (only _, _, some_held q (with_clauses (starting is_sign (by_clauses (expr_plain q) (_, _, starting is_sign k, through is_sign just)))), b)

-- The limits of what is held are those of the items.
pub plain_fits : (es : List Exp) → Each FitsItem (plain_items es) → Each FitsExp es
plain_fits [] f = tt
plain_fits (e ∷ es) f = (f.0.0, plain_fits es f.1)

pub fits_plain : (es : List Exp) → Each FitsExp es → Each FitsItem (plain_items es)
fits_plain [] f = tt
fits_plain (e ∷ es) f = ((f.0, tt), fits_plain es f.1)

pub tuple_fits : (es : List Exp) (m : ℕ) → FitsExp (S.tuple m (all_of es)) → Each FitsExp es
tuple_fits [] m f = tt
tuple_fits (e ∷ es) m f = ((omega (arith, f.0), omega (arith, f.1)), tuple_fits es m (omega (arith, f.0), omega (arith, f.1)))

whole_fits : (m : ℕ) (es : List Exp) (b : Bool) → FitsExp (whole m es b) → Each FitsExp es
whole_fits m [] b f = tt
whole_fits m (e ∷ []) false f = (f, tt)
whole_fits m (e ∷ []) true f = tuple_fits (e ∷ []) m f
whole_fits m (e ∷ (d ∷ es)) b f = tuple_fits (e ∷ (d ∷ es)) m f

pub atom_fits : (a : Exp) {is : List OneItem} {ts rest : List Lexeme} → FromAtom a ts is rest → Each FitsItem is → FitsExp a
atom_fits a (e, mid, k, b) f = down (of_expr_step k) (entered_fits e b f)
  where
    down : {ts rest : List Lexeme} {e : Exp} → Step a ts e rest → FitsExp e → FitsExp a
    down (inl h) g = subst FitsExp h.0 g
    down (inr s) g = s.shrinks max_depth g

held_fits : (l : ℕ) (c : Holding) (js : List OneItem) (mid rest : List Lexeme) → BehindHeld l c mid js rest → Each FitsItem js → FitsHeld c
held_fits l (targeted js) ks mid rest is f = f
held_fits l (plain m es b) ks mid rest (as_items is) f = plain_fits es f
held_fits l (plain m es b) ks mid rest (as_atom k) f = whole_fits m es b (atom_fits (S.parenthesized l (whole m es b)) k f)
held_fits l (only a) ks mid rest k f = atom_fits a k f

pub held_binds : (l : ℕ) → Binds (what_is_held l) (BehindHeld l) (left with_items (Opened l))
held_binds l = record {
  intro = λ ts c mid js rest q k. held_opened l js rest q k;
  inv = λ ts js rest k n. let b = opened_held l k in (b.0, b.1, b.2, tt, b.3);
  down = λ c mid js rest k f. held_fits l c js mid rest k f;
  finish = λ c f. finish c f;
  extend = λ c. extend c;
}
  where
    finish : (c : Holding) → FitsHeld c → (w : List Lexeme) × (js : List OneItem) × Each FitsItem js × ((z : List Lexeme) → BehindHeld l c (w ++ z) js z)
    finish (targeted js) f = ([], js, f, λ z. is)
    finish (plain m es b) f = ([], plain_items es, fits_plain es f, λ z. as_items is)
    finish (only a) f =
        let r = (atom_binds a).finish a f in
        (r.0, r.1, r.2, λ z. (_, _, of_expr_nothing, r.3 z))

    extend : (c : Holding) → (w : List Lexeme) × (js : List OneItem) × ((z : List Lexeme) → BehindHeld l c (w ++ z) js z)
    extend (targeted js) = ([], js, λ z. is)
    extend (plain m es b) = ([], plain_items es, λ z. as_items is)
    extend (only a) =
        let r = (atom_binds a).extend a in
        (r.0, r.1, λ z. (_, _, of_expr_nothing, r.2 z))

-- Expressions that are within the limits, as a tuple.
count_length : (es : List Exp) → count_exps (all_of es) ≡ length es
count_length [] = refl
count_length (e ∷ es) = omega (arith, count_length es)

width_each : (es : List Exp) → Each FitsExp es → width_all (all_of es) ≤ max_items
width_each [] f = omega arith
width_each (e ∷ es) f = omega (arith, f.0.1, width_each es f.1)

pub tuple_in : (m : ℕ) (es : List Exp) → Each FitsExp es → depth_all (all_of es) < 500 → length es ≤ 4096 → FitsExp (S.tuple m (all_of es))
tuple_in m es f d n = (omega (arith, d), omega (arith, n, count_length es, width_each es f))

pub tuple_out : (m : ℕ) (es : List Exp) → FitsExp (S.tuple m (all_of es)) → length es ≤ 4096
tuple_out m es f = omega (arith, f.1, count_length es)

pub whole_tuple : (m : ℕ) (es : List Exp) (b : Bool) → ((b ≡ false) × (length es ≡ 1) → ⊥) → whole m es b ≡ S.tuple m (all_of es)
whole_tuple m [] b n = refl
whole_tuple m (e ∷ []) false n = absurd (n (refl, refl))
whole_tuple m (e ∷ []) true n = refl
whole_tuple m (e ∷ (d ∷ es)) b n = refl

pub map_reverse : {A B : Type 0} (f : A → B) (xs : List A) → map f (reverse xs) ≡ reverse (map f xs)
map_reverse f [] = refl
map_reverse f (x ∷ xs) = ap (map f) (reverse-append (x ∷ []) xs) ∙ map-append f (reverse xs) (x ∷ []) ∙ ap (λ u. u ++ (f x ∷ [])) (map_reverse f xs) ∙ sym (reverse-append (f x ∷ []) (map f xs))
