-- Displays of sets and dictionaries.
use Rattle.std.proofs.Common.{◌≡◌, ◌≢◌, ℕ, ◌+◌, ◌-◌, ◌≤◌, ◌<◌, max, Bool, true, false, List, [], ◌∷◌, ◌++◌, map, length, Option, Some, None, inl, inr, ◌⊎◌, refl, sym, ◌∙◌, ap, subst, arith, append_assoc}
use Rattle.pt_base.specs.declared.operators.BinOp.TheVariants.{Mul, Pow}
use Rattle.pt_wide.specs.declared.expression.WideBinOp.TheVariants.{Plain}
use Rattle.pt_wide.specs.declared.expression.Comprehension.TheVariants as form
use Rattle.pt_wide.specs.Syntax as S
use Rattle.pt_wide.specs.Syntax.{Exp, Entry}
use Rattle.pt_wide.specs.Fold.{all_of}
use Rattle.pt_wide.specs.Measure.{depth_all, width_all, depth_entry, width_entry, width_entries, count_entries}
use Rattle.pt_readers.specs.Reading.{next_of, behind, Part, Alike, Dead, Within, Found, Refused, Carries}
use Rattle.pt_readers.proofs.Readers.{Binds, Shifts, Narrows, Just, just, left, bad_refused}
use Rattle.pt_readers.proofs.Pieces.{Through, through, through_bad, ended, Made, made, made_binds}
use Rattle.pt_readers.proofs.Exits.{over_refused_at, found_at, at_next}
use Rattle.pt_grammar.specs.declared.part.Part.TheVariants.{Whole}
use Rattle.pt_grammar.specs.declared.sign.Sign.TheVariants.{Operator, Mark as mark, Word as word}
use Rattle.pt_grammar.specs.declared.sign.Mark.TheVariants.{OpenBrace, CloseBrace, Comma, Colon}
use Rattle.pt_grammar.specs.declared.sign.Word.TheVariants.{In, For}
use Rattle.pt_grammar.specs.Lexemes.{Lexeme, sign, sign_of, sign_at}
use Rattle.pt_grammar.specs.Signs.{rank_at, begins_item, ends_clauses, ends_entry}
use Rattle.pt_grammar.specs.Grammar.{MoreItems, no_comma, last_comma, more_items, exprs, Item, starred, unstarred, Expr, Clauses, no_clause, more_clauses, Atom, no_dict, a_dict, a_dict_comprehension, a_set, a_set_comprehension, dictionary, MoreEntries, entries_end, entries_comma, more_entries, OneEntry, a_pair, a_spread_entry}
use Rattle.pt_grammar.specs.Nodes.{Listed, OneClause, a_clause_of, clauses_of, entries_of}
use Rattle.pt_grammar.specs.Parts.{Fits, Stops, Apart, ends_in_text, item_rank, an_atom, an_expr, a_bor, an_item, some_exprs, last_of, StopsItems, FitsItems, FitsClauses, some_clauses, FitsEntry, an_entry, FitsEntries, some_entries, max_items}
use Rattle.pt_grammar.proofs.Displays.{depth_entries_snoc}
use Rattle.pt_grammar.specs.Braced.{begins_entry, begins_content, Entered, entered, entered_for, Members, members, Opened, opened_key, opened_for, opened_members, Content, by_entry, by_item, by_expr}
use Rattle.pt_grammar.proofs.Lists.{Lists, Out, at_end, at_last, at_item, Behind, Another, between_shifts, another_carries, another_binds, last_found, last_bad, list_found, list_bad, list_over}
use Rattle.pt_grammar.proofs.Ranks.{IsSign, is_sign, signed_next, not_signed}
use Rattle.pt_grammar.proofs.Atoms.{apart_mark}
use Rattle.pt_grammar.proofs.Begins.{some_name, some_exp, name_binary, name_expr, depth_some}
use Rattle.pt_grammar.proofs.Items.{mul_no_expr, item_begins, far_item, rank_small}
use Rattle.pt_grammar.proofs.ClauseReaders.{apart_word_for, name_clause}

-- Behind the last item of a part, where what follows isn't right.
pub just_bad : {T A : Type 0} (P : Part T A) (x : A) (ts : List T) → (P.stops x (next_of ts) → ⊥) → (P.stops x None → ⊥) → P.fits x → Refused (left P (Just x)) false ts ts
just_bad {T} {A} P x ts n m fits = bad_refused (left P (Just x)) ts (λ more a x' rest' k s. out a k s) [] x fits (λ z. just)
  where
    out : {more rest' : List T} {x' : A} → Alike more ts → Just x more x' rest' → P.stops x' (next_of rest') → ⊥
    out (inl e) just s = n (subst (P.stops x) e s)
    out (inr e) just s = m (subst (λ u. P.stops x (next_of u)) e s)

-- Two ways to say what is left.
pub equal_narrows : {T A : Type 0} (P : Part T A) (K L : List T → A → List T → Type 0) → ((ts : List T) (x : A) (rest : List T) → K ts x rest → L ts x rest)
    → ((ts : List T) (x : A) (rest : List T) → L ts x rest → K ts x rest) → (ts : List T) → Narrows ts (left P K) (left P L)
equal_narrows P K L into out ts = record { into = λ more x rest k. into more x rest k; out = λ more x rest a k s. (out more x rest k, s); stop = λ x o s. s; up = λ x f. f; down = λ x f. f }

-- What is left is K wherever the token t, which is next, begins it.
module _ {T A : Type 0} (P : Part T A) (K L : List T → A → List T → Type 0) (t : T) (ts : List T) (next : next_of ts ≡ Some t)
    (into : (more : List T) (x : A) (rest : List T) → next_of more ≡ Some t → K more x rest → L more x rest)
    (outof : (more : List T) (x : A) (rest : List T) → Alike more ts → L more x rest → P.stops x (next_of rest) → K more x rest)
    (some : (x : A) (rest : List T) → K [] x rest → ⊥)
    (far : (w : List T) × (x : A) × K (t ∷ w) x [] × P.stops x None × P.fits x) where
  at_front : (u : T) (front end : List T) → ts ≡ (u ∷ front) ++ end → (more : List T) → next_of ((u ∷ front) ++ more) ≡ Some t
  at_front u front end w more = ap next_of (sym w) ∙ next

  within_all : (over : Bool) (x : A) → P.fits x → Within P.fits over x
  within_all true x f = f
  within_all false x f = tt

  dead_same : (over : Bool) (more end : List T) → next_of more ≡ next_of end → Dead over more end
  dead_same true more end e = e
  dead_same false more end e = inl e

  begun_found : (x : A) (end : List T) → Found (left P K) ts x end → Found (left P L) ts x end
  begun_found x end f = begun f.front f.whole f.reads f.only
    where
      begun : (front : List T) → ts ≡ front ++ end → ((more : List T) → K (front ++ more) x more)
          → ((more : List T) → Alike more end → (x' : A) (rest' : List T) → K (front ++ more) x' rest' → P.stops x' (next_of rest') → (x' ≡ x) × (rest' ≡ more)) → Found (left P L) ts x end
      begun [] w reads only = absurd (some x [] (reads []))
      begun (u ∷ front) w reads only = record {
        front = u ∷ front;
        whole = w;
        reads = λ more. into _ _ _ (at_front u front end w more) (reads more);
        stops = f.stops;
        fits = f.fits;
        only = λ more a x' rest' k s. only more a x' rest' (outof _ _ _ (inl (at_front u front end w more ∙ sym next)) k s) s;
      }

  begun_refused : (over : Bool) (end : List T) → Refused (left P K) over ts end → Refused (left P L) over ts end
  begun_refused over end f = begun f.front f.whole f.dead f.beyond f.completes
    where
      begun : (front : List T) → ts ≡ front ++ end
          → ((more : List T) → Dead over more end → (x' : A) (rest' : List T) → K (front ++ more) x' rest' → P.stops x' (next_of rest') → Within P.fits over x' → ⊥)
          → (over ≡ true → (v : T) × (more : List T) × (next_of end ≡ Some v) × (x : A) × ((z : List T) → K (front ++ (v ∷ (more ++ z))) x z))
          → ((z : List T) → K (front ++ (f.completion ++ z)) f.completed z) → Refused (left P L) over ts end
      begun [] w dead beyond completes = absurd (dead (t ∷ far.0) (dead_same over (t ∷ far.0) end (sym next ∙ ap next_of w)) far.1 [] far.2 far.3 (within_all over far.1 far.4))
      begun (u ∷ front) w dead beyond completes = record {
        front = u ∷ front;
        whole = w;
        dead = λ more h x' rest' k s g. dead more h x' rest' (outof _ _ _ (inl (at_front u front end w more ∙ sym next)) k s) s g;
        beyond = λ o. let v = beyond o in (v.0, v.1, v.2, v.3, λ z. into _ _ _ (at_front u front end w (v.0 ∷ (v.1 ++ z))) (v.4 z));
        completion = f.completion;
        completed = f.completed;
        fits = f.fits;
        completes = λ z. into _ _ _ (at_front u front end w (f.completion ++ z)) (completes z);
      }

  pub begun_carries : Carries (left P L) ts (left P K) ts
  begun_carries = record { found = begun_found; refused = begun_refused }

-- What ends an entry goes on with nothing in it.
pub entry_stops : (r : ℕ) → r < 12 → (next : Option Lexeme) → ends_entry next ≡ true → (e : Exp) → Stops r e next
entry_stops r h (Some (sign l (mark Comma))) k e = (h, apart_mark (ends_in_text e) l Comma)
entry_stops r h (Some (sign l (mark CloseBrace))) k e = (h, apart_mark (ends_in_text e) l CloseBrace)
entry_stops r h (Some (sign l (word For))) k e = (h, apart_word_for (ends_in_text e) l)
entry_stops r h _ k e = cc

-- `**mapping`
pow_no_expr : (l : ℕ) {ts rest : List Lexeme} {e : Exp} → Expr (sign l (Operator (Plain Pow)) ∷ ts) e rest → ⊥
pow_no_expr l k = let h = item_begins (unstarred k) in cc

pub spread_shifts : (d l : ℕ) → Shifts (sign l (Operator (Plain Pow))) (left (an_entry d) (Made (a_bor d) (S.spread_entry l))) (an_entry d)
spread_shifts d l = record { intro = λ ts x rest k. into k; inv = λ ts x rest k n. (out k, n); stop = λ x o n. n; up = λ x f. f; down = λ x f. f }
  where
    into : {ts rest : List Lexeme} {x : Entry} → Made (a_bor d) (S.spread_entry l) ts x rest → OneEntry (sign l (Operator (Plain Pow)) ∷ ts) x rest
    into (made k) = a_spread_entry k

    out : {ts rest : List Lexeme} {x : Entry} → OneEntry (sign l (Operator (Plain Pow)) ∷ ts) x rest → Made (a_bor d) (S.spread_entry l) ts x rest
    out (a_spread_entry k) = made k
    out (a_pair k v) = absurd (pow_no_expr l k)

pub spread_made : (d l : ℕ) → Binds (a_bor d) (λ e. Just (S.spread_entry l e)) (left (an_entry d) (Made (a_bor d) (S.spread_entry l)))
spread_made d l = made_binds (an_entry d) (a_bor d) (S.spread_entry l) (λ b o s. entry_stops 7 (omega arith) o s b) (λ b f. f) (λ b f. f)

-- `key: value`
pub data Keyed : List Lexeme → Entry → List Lexeme → Type 0 where
  keyed : {l : ℕ} {ts mid rest : List Lexeme} {k v : Exp} → Expr ts k (sign l (mark Colon) ∷ mid) → Expr mid v rest → Keyed ts (S.pair k v) rest

pub keyed_narrows : (d : ℕ) (ts : List Lexeme) → sign_at (next_of ts) ≢ Some (Operator (Plain Pow)) → Narrows ts (left (an_entry d) Keyed) (an_entry d)
keyed_narrows d ts n = record { into = λ more x rest k. into k; out = λ more x rest a k s. (out a k, s); stop = λ x o s. s; up = λ x f. f; down = λ x f. f }
  where
    into : {more rest : List Lexeme} {x : Entry} → Keyed more x rest → OneEntry more x rest
    into (keyed k v) = a_pair k v

    out : {more rest : List Lexeme} {x : Entry} → Alike more ts → OneEntry more x rest → Keyed more x rest
    out a (a_pair k v) = keyed k v
    out (inl e) (a_spread_entry k) = absurd (n (sym (ap sign_at e)))
    out (inr e) (a_spread_entry k) = cc

pub pair_fits : (d : ℕ) (k v : Exp) → Fits d k → Fits d v → FitsEntry d (S.pair k v)
pair_fits d k v f g = (omega (arith, f.0, g.0), omega (arith, f.1, g.1))

pub key_binds : (d : ℕ) → 0 < d → Binds (an_expr d) (λ k. Through (IsSign (mark Colon)) (Made (an_expr d) (S.pair k))) (left (an_entry d) Keyed)
key_binds d h = record {
  intro = λ ts y mid x rest q k. into q k;
  inv = λ ts x rest k n. out k;
  down = λ y mid x rest k f. part k f;
  finish = λ y f. (sign 0 (mark Colon) ∷ (some_name ∷ []), S.pair y some_exp, pair_fits d y some_exp f (omega arith, omega arith), λ z. through is_sign (made name_expr));
  extend = λ y. (sign 0 (mark Colon) ∷ (some_name ∷ []), S.pair y some_exp, λ z. through is_sign (made name_expr));
}
  where
    into : {ts mid rest : List Lexeme} {y : Exp} {x : Entry} → Expr ts y mid → Through (IsSign (mark Colon)) (Made (an_expr d) (S.pair y)) mid x rest → Keyed ts x rest
    into q (through is_sign (made v)) = keyed q v

    out : {ts rest : List Lexeme} {x : Entry} → Keyed ts x rest
        → (y : Exp) × (mid : List Lexeme) × Expr ts y mid × Stops 11 y (next_of mid) × Through (IsSign (mark Colon)) (Made (an_expr d) (S.pair y)) mid x rest
    out (keyed {l = l} {k = k} q v) = (k, _, q, (omega arith, apart_mark (ends_in_text k) l Colon), through is_sign (made v))

    part : {mid rest : List Lexeme} {y : Exp} {x : Entry} → Through (IsSign (mark Colon)) (Made (an_expr d) (S.pair y)) mid x rest → FitsEntry d x → Fits d y
    part (through j (made v)) f = (omega (arith, f.0), omega (arith, f.1))

pub value_made : (d : ℕ) (k : Exp) → Fits d k → Binds (an_expr d) (λ v. Just (S.pair k v)) (left (an_entry d) (Made (an_expr d) (S.pair k)))
value_made d k g = made_binds (an_entry d) (an_expr d) (S.pair k) (λ b o s. entry_stops 11 (omega arith) o s b) (λ b f. (omega (arith, f.0), omega (arith, f.1))) (λ b f. pair_fits d k b g f)

-- how an entry begins
plain_entry : (next : Option Lexeme) → sign_at next ≢ Some (Operator (Plain Mul)) → begins_item Whole next ≡ true → begins_entry next ≡ true
plain_entry (Some (sign l (Operator (Plain Pow)))) n b = refl
plain_entry (Some (sign l (Operator (Plain Mul)))) n b = absurd (n refl)
plain_entry (Some (sign l _)) n b = b
plain_entry (Some _) n b = b
plain_entry None n b = b

no_star : {ts rest : List Lexeme} {e : Exp} → Expr ts e rest → sign_at (next_of ts) ≢ Some (Operator (Plain Mul))
no_star {ts = sign l (Operator (Plain Mul)) ∷ ts} k h = mul_no_expr l k
no_star {ts = sign l _ ∷ ts} k h = cc
no_star {ts = _ ∷ ts} k h = cc
no_star {ts = []} k h = cc

entry_begins : {ts mid : List Lexeme} {g : Entry} → OneEntry ts g mid → begins_entry (next_of ts) ≡ true
entry_begins (a_spread_entry k) = refl
entry_begins {ts} (a_pair k v) = plain_entry (next_of ts) (no_star k) (item_begins (unstarred k))

plain_item : (t : Lexeme) {ts rest : List Lexeme} {e : Exp} → sign_of t ≢ Some (Operator (Plain Mul)) → Item Whole (t ∷ ts) e rest → Expr (t ∷ ts) e rest
plain_item t n (starred k) = absurd (n refl)
plain_item t n (unstarred k) = k

entry_plain : (t : Lexeme) → begins_entry (Some t) ≡ true → (sign_of t ≡ Some (Operator (Plain Pow))) ⊎ ((begins_item Whole (Some t) ≡ true) × (sign_of t ≢ Some (Operator (Plain Mul))))
entry_plain (sign l (Operator (Plain Pow))) b = inl refl
entry_plain (sign l (Operator (Plain Mul))) b = cc
entry_plain (sign l _) b = inr (b, λ e. cc)
entry_plain _ b = inr (b, λ e. cc)

abbrev FarEntry : Lexeme → Type 0
FarEntry t = (w : List Lexeme) × (g : Entry) × ((z : List Lexeme) → OneEntry (t ∷ (w ++ z)) g z)

far_spread : (t : Lexeme) → sign_of t ≡ Some (Operator (Plain Pow)) → FarEntry t
far_spread (sign l (Operator (Plain Pow))) h = (some_name ∷ [], S.spread_entry l some_exp, λ z. a_spread_entry (name_binary 6))
far_spread (sign l _) h = cc
far_spread _ h = cc

far_entry : (t : Lexeme) → begins_entry (Some t) ≡ true → FarEntry t
far_entry t b = elim (entry_plain t b) [
  | inl h ↦ far_spread t h
  | inr h ↦ let f = far_item Whole t h.0 in (f.0 ++ (sign 0 (mark Colon) ∷ (some_name ∷ [])), S.pair f.1 some_exp, λ z. rw append_assoc (a_pair (plain_item t h.1 (f.2 (sign 0 (mark Colon) ∷ (some_name ∷ z)))) name_expr))
]

-- lists of entries
abbrev pub entry_more : List Entry → Entry → List Entry
entry_more gs g = gs ++ (g ∷ [])

abbrev pub the_entries : List Entry → List Entry
the_entries gs = gs

abbrev pub EntryNext : Option Lexeme → Type 0
EntryNext o = begins_entry o ≡ true

width_entries_snoc : (gs : List Entry) (g : Entry) → width_entries (entries_of (gs ++ (g ∷ []))) ≡ max (width_entries (entries_of gs)) (width_entry g)
width_entries_snoc [] g = omega arith
width_entries_snoc (h ∷ gs) g = omega (arith, width_entries_snoc gs g)

count_entries_snoc : (gs : List Entry) (g : Entry) → count_entries (entries_of (gs ++ (g ∷ []))) ≡ count_entries (entries_of gs) + 1
count_entries_snoc [] g = omega arith
count_entries_snoc (h ∷ gs) g = omega (arith, count_entries_snoc gs g)

pub count_of_entries : {X : Type 0} (f : X → Entry) (xs : List X) → count_entries (entries_of (map f xs)) ≡ length xs
count_of_entries f [] = refl
count_of_entries f (x ∷ xs) = omega (arith, count_of_entries f xs)

pub entries_one : (d : ℕ) (g : Entry) → FitsEntry d g → FitsEntries d (g ∷ [])
entries_one d g f = (omega (arith, f.0), omega (arith, f.1), omega arith)

pub entries_grow : (d : ℕ) (gs : List Entry) (g : Entry) → FitsEntries d gs → count_entries (entries_of gs) < max_items → FitsEntry d g → FitsEntries d (gs ++ (g ∷ []))
entries_grow d gs g f h k = (omega (arith, f.0, k.0, depth_entries_snoc gs g), omega (arith, f.1, k.1, width_entries_snoc gs g), omega (arith, h, count_entries_snoc gs g))

entries_shrink : (d : ℕ) (gs : List Entry) (g : Entry) → FitsEntries d (gs ++ (g ∷ [])) → FitsEntries d gs
entries_shrink d gs g f = (omega (arith, f.0, depth_entries_snoc gs g), omega (arith, f.1, width_entries_snoc gs g), omega (arith, f.2, count_entries_snoc gs g))

brace_ends : (next : Option Lexeme) → sign_at next ≡ Some (mark CloseBrace) → ends_entry next ≡ true
brace_ends next h = ap ends_entry (signed_next next h).1

brace_begins_none : (next : Option Lexeme) → sign_at next ≡ Some (mark CloseBrace) → begins_entry next ≡ true → ⊥
brace_begins_none next h b = let e = sym b ∙ ap begins_entry (signed_next next h).1 in cc

module _ (d : ℕ) where
  entries_within : (gs : List Entry) {all : List Entry} {ts rest : List Lexeme} → MoreEntries gs ts all rest → FitsEntries d all → FitsEntries d gs
  entries_within gs entries_end f = f
  entries_within gs entries_comma f = f
  entries_within gs (more_entries {g = g} q k) f = entries_shrink d gs g (entries_within (gs ++ (g ∷ [])) k f)

  pub entry_list : Lists (some_entries d) MoreEntries (IsSign (mark Comma)) (an_entry d) EntryNext entry_more the_entries the_entries
  entry_list = record {
    done = λ s ts. entries_end;
    last = λ s t ts j. final j;
    step = λ s t ts mid rest b x j q k. step j q k;
    out = λ s ts x rest k. out k;
    ends = λ s t n j. ends n j;
    closes = λ s o n b. brace_begins_none o n b;
    begins = λ ts mid b q. entry_begins q;
    no_end = λ h. cc;
    far = λ t h. far_entry t h;
    finale = sign 0 (mark CloseBrace) ∷ [];
    at_last_end = λ s. refl;
    stays = λ s b o n. brace_ends o n;
    goes = λ b u j. goes j;
    shrinks = λ s ts x rest k f. entries_within s k f;
    same = λ s f. f;
    part = λ s b f. (omega (arith, f.0, depth_entries_snoc s b), omega (arith, f.1, width_entries_snoc s b));
  }
    where
      final : {s : List Entry} {t : Lexeme} {ts : List Lexeme} → IsSign (mark Comma) t → MoreEntries s (t ∷ ts) s ts
      final is_sign = entries_comma

      step : {s : List Entry} {b : Entry} {x : List Entry} {t : Lexeme} {ts mid rest : List Lexeme} → IsSign (mark Comma) t → OneEntry ts b mid → MoreEntries (s ++ (b ∷ [])) mid x rest → MoreEntries s (t ∷ ts) x rest
      step is_sign q k = more_entries q k

      out : {s x : List Entry} {ts rest : List Lexeme} → MoreEntries s ts x rest → Out (some_entries d) MoreEntries (IsSign (mark Comma)) (an_entry d) EntryNext entry_more the_entries the_entries s ts x rest
      out entries_end = at_end
      out entries_comma = at_last is_sign
      out (more_entries q k) = at_item is_sign q k

      ends : {t : Lexeme} → sign_at (Some t) ≡ Some (mark CloseBrace) → IsSign (mark Comma) t → ⊥
      ends n is_sign = cc

      goes : {u : Lexeme} → IsSign (mark Comma) u → ends_entry (Some u) ≡ true
      goes is_sign = refl

  pub entries_comma_shifts : (gs : List Entry) (l : ℕ) → Shifts (sign l (mark Comma)) (left (some_entries d) (Behind (some_entries d) MoreEntries (IsSign (mark Comma)) (an_entry d) EntryNext entry_more the_entries the_entries gs)) (left (some_entries d) (MoreEntries gs))
  entries_comma_shifts gs l = between_shifts (some_entries d) MoreEntries (IsSign (mark Comma)) (an_entry d) EntryNext entry_more the_entries the_entries entry_list gs (sign l (mark Comma)) is_sign

  pub entries_another : (gs : List Entry) (ts : List Lexeme) → begins_entry (next_of ts) ≡ true
      → Carries (left (some_entries d) (Behind (some_entries d) MoreEntries (IsSign (mark Comma)) (an_entry d) EntryNext entry_more the_entries the_entries gs)) ts (left (some_entries d) (Another (some_entries d) MoreEntries (IsSign (mark Comma)) (an_entry d) EntryNext entry_more the_entries the_entries gs)) ts
  entries_another gs ts b = another_carries (some_entries d) MoreEntries (IsSign (mark Comma)) (an_entry d) EntryNext entry_more the_entries the_entries entry_list gs ts b

  pub entries_next : (gs : List Entry) → FitsEntries d gs → count_entries (entries_of gs) < max_items
      → Binds (an_entry d) (λ g. MoreEntries (gs ++ (g ∷ []))) (left (some_entries d) (Another (some_entries d) MoreEntries (IsSign (mark Comma)) (an_entry d) EntryNext entry_more the_entries the_entries gs))
  entries_next gs f h = another_binds (some_entries d) MoreEntries (IsSign (mark Comma)) (an_entry d) EntryNext entry_more the_entries the_entries entry_list gs (λ g k. entries_grow d gs g f h k)

  -- behind a comma
  pub entries_last : (gs : List Entry) (ts : List Lexeme) → sign_at (next_of ts) ≡ Some (mark CloseBrace) → FitsEntries d gs
      → Found (left (some_entries d) (Behind (some_entries d) MoreEntries (IsSign (mark Comma)) (an_entry d) EntryNext entry_more the_entries the_entries gs)) ts gs ts
  entries_last gs ts n f = last_found (some_entries d) MoreEntries (IsSign (mark Comma)) (an_entry d) EntryNext entry_more the_entries the_entries entry_list gs ts (λ b. brace_begins_none (next_of ts) n b) n f

  pub entries_last_bad : (gs : List Entry) (ts : List Lexeme) → begins_entry (next_of ts) ≡ false → sign_at (next_of ts) ≢ Some (mark CloseBrace) → FitsEntries d gs
      → Refused (left (some_entries d) (Behind (some_entries d) MoreEntries (IsSign (mark Comma)) (an_entry d) EntryNext entry_more the_entries the_entries gs)) false ts ts
  entries_last_bad gs ts b n f = last_bad (some_entries d) MoreEntries (IsSign (mark Comma)) (an_entry d) EntryNext entry_more the_entries the_entries entry_list gs ts (λ h. let e = sym h ∙ b in cc) n (λ h. cc) f

  pub entries_over : (gs : List Entry) (ts : List Lexeme) → begins_entry (next_of ts) ≡ true → FitsEntries d gs → max_items ≤ count_entries (entries_of gs)
      → Refused (left (some_entries d) (Behind (some_entries d) MoreEntries (IsSign (mark Comma)) (an_entry d) EntryNext entry_more the_entries the_entries gs)) true ts ts
  entries_over gs ts b f h =
      let t = entry_token (next_of ts) b in
      list_over (some_entries d) MoreEntries (IsSign (mark Comma)) (an_entry d) EntryNext entry_more the_entries the_entries entry_list gs t.0 ts t.1 (sym (ap begins_entry t.1) ∙ b) f (λ g k. omega (arith, h, k.2, count_entries_snoc gs g))
    where
      entry_token : (next : Option Lexeme) → begins_entry next ≡ true → (t : Lexeme) × (next ≡ Some t)
      entry_token (Some t) b = (t, refl)
      entry_token None b = cc

  -- behind the last
  pub entries_found : (gs : List Entry) (ts : List Lexeme) → sign_at (next_of ts) ≢ Some (mark Comma) → sign_at (next_of ts) ≡ Some (mark CloseBrace) → FitsEntries d gs → Found (left (some_entries d) (MoreEntries gs)) ts gs ts
  entries_found gs ts n s f = list_found (some_entries d) MoreEntries (IsSign (mark Comma)) (an_entry d) EntryNext entry_more the_entries the_entries entry_list gs ts (not_signed (next_of ts) n) s f

  pub entries_bad : (gs : List Entry) (ts : List Lexeme) → sign_at (next_of ts) ≢ Some (mark Comma) → sign_at (next_of ts) ≢ Some (mark CloseBrace) → FitsEntries d gs → Refused (left (some_entries d) (MoreEntries gs)) false ts ts
  entries_bad gs ts n s f = list_bad (some_entries d) MoreEntries (IsSign (mark Comma)) (an_entry d) EntryNext entry_more the_entries the_entries entry_list gs ts (not_signed (next_of ts) n) s (λ h. cc) f

-- What Q reads, and the closing brace: a node is made of that.
pub data Closed {B : Type 0} (Q : Part Lexeme B) (f : B → Exp) : List Lexeme → Exp → List Lexeme → Type 0 where
  closed_by : {m : ℕ} {ts rest : List Lexeme} {b : B} → Q.reads ts b (sign m (mark CloseBrace) ∷ rest) → Closed Q f ts (f b) rest

pub closed_binds : {B : Type 0} (d : ℕ) (Q : Part Lexeme B) (f : B → Exp) → ((b : B) (m : ℕ) → Q.stops b (Some (sign m (mark CloseBrace)))) → ((b : B) → Fits d (f b) → Q.fits b)
    → ((b : B) → Q.fits b → Fits d (f b)) → Binds Q (λ b. Through (IsSign (mark CloseBrace)) (Just (f b))) (left (an_atom d) (Closed Q f))
closed_binds {B} d Q f stops down up = record {
  intro = λ ts y mid x rest q k. into q k;
  inv = λ ts x rest k n. out k;
  down = λ y mid x rest k g. part k g;
  finish = λ y g. (sign 0 (mark CloseBrace) ∷ [], f y, up y g, λ z. through is_sign just);
  extend = λ y. (sign 0 (mark CloseBrace) ∷ [], f y, λ z. through is_sign just);
}
  where
    into : {ts mid rest : List Lexeme} {y : B} {x : Exp} → Q.reads ts y mid → Through (IsSign (mark CloseBrace)) (Just (f y)) mid x rest → Closed Q f ts x rest
    into q (through is_sign just) = closed_by q

    out : {ts rest : List Lexeme} {x : Exp} → Closed Q f ts x rest
        → (y : B) × (mid : List Lexeme) × Q.reads ts y mid × Q.stops y (next_of mid) × Through (IsSign (mark CloseBrace)) (Just (f y)) mid x rest
    out (closed_by {m = m} {b = b} q) = (b, _, q, stops b m, through is_sign just)

    part : {mid rest : List Lexeme} {y : B} {x : Exp} → Through (IsSign (mark CloseBrace)) (Just (f y)) mid x rest → Fits d x → Q.fits y
    part {y = y} (through j just) g = down y g

-- where the brace is missing, and where it stands
pub unclosed : {d : ℕ} {P : Part Lexeme Exp} {x : Exp} {ts mid : List Lexeme} → Carries P ts (left (an_atom d) (Through (IsSign (mark CloseBrace)) (Just x))) mid
    → sign_at (next_of mid) ≢ Some (mark CloseBrace) → Fits d x → Refused P false ts mid
unclosed {d} {x = x} {mid = mid} c n f = c.refused false _ (through_bad (an_atom d) (IsSign (mark CloseBrace)) (Just x) mid (not_signed (next_of mid) n) (sign 0 (mark CloseBrace)) is_sign [] x f (λ z. just))

pub closed_found : {d : ℕ} {P : Part Lexeme Exp} {x : Exp} {ts mid rest : List Lexeme} → Carries P ts (left (an_atom d) (Through (IsSign (mark CloseBrace)) (Just x))) mid
    → sign_at (next_of mid) ≡ Some (mark CloseBrace) → rest ≡ behind mid → ends_in_text x ≡ false → Fits d x → Found P ts x rest
closed_found {d} {x = x} {mid = mid} {rest = rest} c n k e f = let s = signed_next (next_of mid) n in ended (an_atom d) c s.1 is_sign k (subst (λ b. Apart b (next_of rest)) (sym e) tt) f

-- behind the first item of a set
abbrev pub set_of : ℕ → Listed → Exp
set_of l x = S.set l (all_of x.items)

abbrev pub a_set_left : Exp → ℕ → Part Lexeme Listed
a_set_left e d = left (some_exprs Whole (d - 1)) (MoreItems Whole (e ∷ []))

pub members_narrows : (d l : ℕ) (e : Exp) (ts : List Lexeme) → Narrows ts (left (an_atom d) (Closed (a_set_left e d) (set_of l))) (left (an_atom d) (Members l e))
members_narrows d l e ts = equal_narrows (an_atom d) (Closed (a_set_left e d) (set_of l)) (Members l e) (λ ts x rest k. into k) (λ ts x rest k. out k) ts
  where
    into : {ts rest : List Lexeme} {x : Exp} → Closed (a_set_left e d) (set_of l) ts x rest → Members l e ts x rest
    into (closed_by k) = members k

    out : {ts rest : List Lexeme} {x : Exp} → Members l e ts x rest → Closed (a_set_left e d) (set_of l) ts x rest
    out (members k) = closed_by k

brace_stops : (b : Bool) (es : List Exp) (m : ℕ) → StopsItems Whole b es (Some (sign m (mark CloseBrace)))
brace_stops true es m = refl
brace_stops false [] m = λ b. b
brace_stops false (e ∷ es) m = ((omega (arith, rank_small Whole (last_of e es)), apart_mark (ends_in_text (last_of e es)) m CloseBrace), λ b. b)

pub set_fits : (d l : ℕ) (x : Listed) → 0 < d → FitsItems (d - 1) x.items → Fits d (set_of l x)
set_fits d l x h f = (omega (arith, f.0), omega (arith, f.1, f.2))

pub members_binds : (d l : ℕ) (e : Exp) → 0 < d → Binds (a_set_left e d) (λ x. Through (IsSign (mark CloseBrace)) (Just (set_of l x))) (left (an_atom d) (Closed (a_set_left e d) (set_of l)))
members_binds d l e h = closed_binds d (a_set_left e d) (set_of l) (λ x m. brace_stops x.comma x.items m) (λ x f. (omega (arith, f.0), omega (arith, f.1), omega (arith, f.1))) (λ x f. set_fits d l x h f)

-- what follows an item that is read
pub one_item : (d : ℕ) (e : Exp) → Fits d e → FitsItems d (e ∷ [])
one_item d e f = (omega (arith, f.0), omega (arith, f.1), omega arith)

-- clauses and the brace
pub no_clauses_left : (f : List OneClause → Exp) (d : ℕ) {ts rest : List Lexeme} {x : Exp} → Closed (some_clauses d) f ts x rest → ts ≡ [] → ⊥
no_clauses_left f d (closed_by no_clause) e = cc
no_clauses_left f d (closed_by (more_clauses q k)) e = cc

pub clauses_binds : (d : ℕ) (f : List OneClause → Exp) → ((cs : List OneClause) → Fits d (f cs) → FitsClauses (d - 1) cs) → ((cs : List OneClause) → FitsClauses (d - 1) cs → Fits d (f cs))
    → Binds (some_clauses (d - 1)) (λ cs. Through (IsSign (mark CloseBrace)) (Just (f cs))) (left (an_atom d) (Closed (some_clauses (d - 1)) f))
clauses_binds d f down up = closed_binds d (some_clauses (d - 1)) f (λ cs m. refl) down up

-- where clauses are read there is one at least
pub clauses_not_none : {d l : ℕ} {ts rest : List Lexeme} {cs : List OneClause} → next_of ts ≡ Some (sign l (word For)) → Found (some_clauses d) ts cs rest → cs ≢ []
clauses_not_none {ts = ts} {rest = rest} {cs = cs} h f e = none f.front f.whole (f.reads rest)
  where
    grown : {es all : List OneClause} {us vs : List Lexeme} → Clauses es us all vs → (es ≡ [] → ⊥) → all ≡ [] → ⊥
    grown no_clause n h = n h
    grown {es} (more_clauses {c = c} q k) n h = grown k (more es c) h
      where
        more : (es : List OneClause) (c : OneClause) → es ++ (c ∷ []) ≡ [] → ⊥
        more [] c g = cc
        more (b ∷ es) c g = cc

    alone : {us vs : List Lexeme} {all : List OneClause} → Clauses [] us all vs → all ≡ [] → us ≡ vs
    alone no_clause h = refl
    alone (more_clauses q k) h = absurd (grown k (λ g. cc) h)

    none : (front : List Lexeme) → ts ≡ front ++ rest → Clauses [] (front ++ rest) cs rest → ⊥
    none front w k = let g = sym f.stops ∙ ap (λ u. ends_clauses (next_of u)) (sym (w ∙ alone k e)) ∙ ap ends_clauses h in cc

-- the shortest clauses, and the brace
short_clauses : (l : ℕ) → Clauses [] (sign l (word For) ∷ (some_name ∷ (sign 0 (word In) ∷ (some_name ∷ (sign 0 (mark CloseBrace) ∷ []))))) (a_clause_of l some_exp some_exp [] ∷ []) (sign 0 (mark CloseBrace) ∷ [])
short_clauses l = more_clauses (name_clause l) no_clause

-- behind the first entry
abbrev pub dict_for : ℕ → Entry → List OneClause → Exp
dict_for l g cs = S.dict_comprehension l g (clauses_of cs)

abbrev pub dict_of : ℕ → List Entry → Exp
dict_of l gs = S.dict l (entries_of gs)

abbrev pub a_dict_left : Entry → ℕ → Part Lexeme (List Entry)
a_dict_left g d = left (some_entries (d - 1)) (MoreEntries (g ∷ []))

pub dict_for_fits : (d l : ℕ) (g : Entry) (cs : List OneClause) → 0 < d → FitsEntry (d - 1) g → FitsClauses (d - 1) cs → Fits d (dict_for l g cs)
dict_for_fits d l g cs h f k = (omega (arith, f.0, k.0), omega (arith, f.1, k.1))

pub dict_fits : (d l : ℕ) (gs : List Entry) → 0 < d → FitsEntries (d - 1) gs → Fits d (dict_of l gs)
dict_fits d l gs h f = (omega (arith, f.0), omega (arith, f.1, f.2))

module _ (d l : ℕ) (g : Entry) (some : 1 < d) (f : FitsEntry (d - 1) g) where
  pub entered_for_carries : (k : ℕ) (ts : List Lexeme) → next_of ts ≡ Some (sign k (word For)) → Carries (left (an_atom d) (Entered l g)) ts (left (an_atom d) (Closed (some_clauses (d - 1)) (dict_for l g))) ts
  entered_for_carries k ts h = begun_carries (an_atom d) (Closed (some_clauses (d - 1)) (dict_for l g)) (Entered l g) (sign k (word For)) ts h (λ more x rest e c. into more e c) (λ more x rest a c s. out a c) (λ x rest c. no_clauses_left (dict_for l g) (d - 1) c refl)
      (some_name ∷ (sign 0 (word In) ∷ (some_name ∷ (sign 0 (mark CloseBrace) ∷ []))), dict_for l g (a_clause_of k some_exp some_exp [] ∷ []), closed_by (short_clauses k), tt, dict_for_fits d l g (a_clause_of k some_exp some_exp [] ∷ []) (omega (arith, some)) f (omega (arith, some), omega arith))
    where
      into : (more : List Lexeme) {rest : List Lexeme} {x : Exp} → next_of more ≡ Some (sign k (word For)) → Closed (some_clauses (d - 1)) (dict_for l g) more x rest → Entered l g more x rest
      into [] e c = cc
      into (t ∷ more) {rest} {x} e c = let i : t ≡ sign k (word For) = cc in subst (λ u. Entered l g (u ∷ more) x rest) (sym i) (into_for (subst (λ u. Closed (some_clauses (d - 1)) (dict_for l g) (u ∷ more) x rest) i c))
        where
          into_for : {us rest : List Lexeme} {x : Exp} → Closed (some_clauses (d - 1)) (dict_for l g) (sign k (word For) ∷ us) x rest → Entered l g (sign k (word For) ∷ us) x rest
          into_for (closed_by c) = entered_for c

      not_entries : {more rest : List Lexeme} {gs all : List Entry} {m : ℕ} → MoreEntries gs more all (sign m (mark CloseBrace) ∷ rest) → sign_at (next_of more) ≡ Some (word For) → ⊥
      not_entries entries_end e = cc
      not_entries entries_comma e = cc
      not_entries (more_entries q c) e = cc

      out : {more rest : List Lexeme} {x : Exp} → Alike more ts → Entered l g more x rest → Closed (some_clauses (d - 1)) (dict_for l g) more x rest
      out a (entered_for c) = closed_by c
      out (inl e) (entered c) = absurd (not_entries c (ap sign_at (e ∙ h)))
      out (inr e) (entered c) = absurd (none c e)
        where
          none : {more rest : List Lexeme} {gs all : List Entry} {m : ℕ} → MoreEntries gs more all (sign m (mark CloseBrace) ∷ rest) → more ≡ [] → ⊥
          none entries_end e = cc
          none entries_comma e = cc
          none (more_entries q c) e = cc

  pub entered_for_binds : Binds (some_clauses (d - 1)) (λ cs. Through (IsSign (mark CloseBrace)) (Just (dict_for l g cs))) (left (an_atom d) (Closed (some_clauses (d - 1)) (dict_for l g)))
  entered_for_binds = clauses_binds d (dict_for l g) (λ cs k. (omega (arith, k.0), omega (arith, k.1))) (λ cs k. dict_for_fits d l g cs (omega (arith, some)) f k)

  pub entered_narrows : (ts : List Lexeme) → sign_at (next_of ts) ≢ Some (word For) → Narrows ts (left (an_atom d) (Closed (a_dict_left g d) (dict_of l))) (left (an_atom d) (Entered l g))
  entered_narrows ts n = record { into = λ more x rest k. into k; out = λ more x rest a k s. (out a k, s); stop = λ x o s. s; up = λ x k. k; down = λ x k. k }
    where
      into : {more rest : List Lexeme} {x : Exp} → Closed (a_dict_left g d) (dict_of l) more x rest → Entered l g more x rest
      into (closed_by k) = entered k

      out : {more rest : List Lexeme} {x : Exp} → Alike more ts → Entered l g more x rest → Closed (a_dict_left g d) (dict_of l) more x rest
      out a (entered k) = closed_by k
      out (inl e) (entered_for k) = absurd (n (sym (ap sign_at e)))
      out (inr e) (entered_for k) = cc

  pub entered_binds : Binds (a_dict_left g d) (λ gs. Through (IsSign (mark CloseBrace)) (Just (dict_of l gs))) (left (an_atom d) (Closed (a_dict_left g d) (dict_of l)))
  entered_binds = closed_binds d (a_dict_left g d) (dict_of l) (λ gs m. refl) (λ gs k. (omega (arith, k.0), omega (arith, k.1), omega (arith, k.1))) (λ gs k. dict_fits d l gs (omega (arith, some)) k)

-- how what follows the first entry begins
entered_ends : {l : ℕ} {g : Entry} {ts rest : List Lexeme} {x : Exp} → Entered l g ts x rest → ends_entry (next_of ts) ≡ true
entered_ends (entered entries_end) = refl
entered_ends (entered entries_comma) = refl
entered_ends (entered (more_entries q k)) = refl
entered_ends (entered_for k) = refl

entered_fits : (d l : ℕ) (g : Entry) {ts rest : List Lexeme} {x : Exp} → Entered l g ts x rest → Fits d x → FitsEntry (d - 1) g
entered_fits d l g (entered {gs = gs} k) f = let h = entries_within (d - 1) (g ∷ []) k (omega (arith, f.0), omega (arith, f.1), omega (arith, f.1)) in (omega (arith, h.0), omega (arith, h.1))
entered_fits d l g (entered_for k) f = (omega (arith, f.0), omega (arith, f.1))

-- an entry, and what follows it
module _ (d l : ℕ) (some : 1 < d) (Q : Part Lexeme Entry) (P : List Lexeme → Exp → List Lexeme → Type 0)
    (intro : (ts : List Lexeme) (g : Entry) (mid : List Lexeme) (x : Exp) (rest : List Lexeme) → Q.reads ts g mid → Entered l g mid x rest → P ts x rest)
    (inv : (ts : List Lexeme) (x : Exp) (rest : List Lexeme) → P ts x rest → (g : Entry) × (mid : List Lexeme) × Q.reads ts g mid × Entered l g mid x rest)
    (stops : (g : Entry) (o : Option Lexeme) → ends_entry o ≡ true → Q.stops g o) (fits : (g : Entry) → FitsEntry (d - 1) g → Q.fits g) (fit : (g : Entry) → Q.fits g → FitsEntry (d - 1) g) where
  pub entry_binds : Binds Q (λ g. Entered l g) (left (an_atom d) P)
  entry_binds = record {
    intro = intro;
    inv = λ ts x rest k n. let i = inv ts x rest k in (i.0, i.1, i.2, stops i.0 (next_of i.1) (entered_ends i.3), i.3);
    down = λ y mid x rest k f. fits y (entered_fits d l y k f);
    finish = λ y f. (sign 0 (mark CloseBrace) ∷ [], dict_of l (y ∷ []), dict_fits d l (y ∷ []) (omega (arith, some)) (entries_one (d - 1) y (fit y f)), λ z. entered entries_end);
    extend = λ y. (sign 0 (mark CloseBrace) ∷ [], dict_of l (y ∷ []), λ z. entered entries_end);
  }

-- behind the colon of the first key
pub data Valued (l : ℕ) (e : Exp) : List Lexeme → Exp → List Lexeme → Type 0 where
  valued : {ts mid rest : List Lexeme} {v x : Exp} → Expr ts v mid → Entered l (S.pair e v) mid x rest → Valued l e ts x rest

abbrev pub set_for : ℕ → Exp → List OneClause → Exp
set_for l e cs = S.comprehension l form.Set e (clauses_of cs)

pub set_for_fits : (d l : ℕ) (e : Exp) (cs : List OneClause) → 0 < d → Fits (d - 1) e → FitsClauses (d - 1) cs → Fits d (set_for l e cs)
set_for_fits d l e cs h f k = (omega (arith, f.0, k.0), omega (arith, f.1, k.1))

-- how what follows the first item of a set begins
members_next : {l : ℕ} {e : Exp} {ts rest : List Lexeme} {x : Exp} → Members l e ts x rest → (sign_at (next_of ts) ≡ Some (mark Comma)) ⊎ (sign_at (next_of ts) ≡ Some (mark CloseBrace))
members_next (members no_comma) = inr refl
members_next (members last_comma) = inl refl
members_next (members (more_items q k)) = inl refl

members_fits : (d l : ℕ) (e : Exp) {ts rest : List Lexeme} {x : Exp} → Members l e ts x rest → Fits d x → Fits (d - 1) e
members_fits d l e (members {x = y} k) f = let h = within (e ∷ []) k (omega (arith, f.0), omega (arith, f.1)) in (omega (arith, h.0), omega (arith, h.1))
  where
    shrink : (es : List Exp) (a : Exp) → (depth_all (all_of (es ++ (a ∷ []))) ≤ d - 1) × (width_all (all_of (es ++ (a ∷ []))) ≤ max_items) → (depth_all (all_of es) ≤ d - 1) × (width_all (all_of es) ≤ max_items)
    shrink [] a f = (omega arith, omega arith)
    shrink (b ∷ es) a f = let i = shrink es a (omega (arith, f.0), omega (arith, f.1)) in (omega (arith, f.0, i.0), omega (arith, f.1, i.1))

    within : (es : List Exp) {us vs : List Lexeme} {x : Listed} → MoreItems Whole es us x vs → (depth_all (all_of x.items) ≤ d - 1) × (width_all (all_of x.items) ≤ max_items) → (depth_all (all_of es) ≤ d - 1) × (width_all (all_of es) ≤ max_items)
    within es no_comma f = f
    within es last_comma f = f
    within es (more_items {e = a} q k) f = shrink es a (within (es ++ (a ∷ [])) k f)

module _ (d l : ℕ) (e : Exp) (some : 1 < d) (f : Fits (d - 1) e) where
  pub colon_shifts : (k : ℕ) → Shifts (sign k (mark Colon)) (left (an_atom d) (Valued l e)) (left (an_atom d) (Opened l e))
  colon_shifts k = record { intro = λ ts x rest c. into c; inv = λ ts x rest c n. (out c, n); stop = λ x o n. n; up = λ x h. h; down = λ x h. h }
    where
      into : {ts rest : List Lexeme} {x : Exp} → Valued l e ts x rest → Opened l e (sign k (mark Colon) ∷ ts) x rest
      into (valued v c) = opened_key v c

      out : {ts rest : List Lexeme} {x : Exp} → Opened l e (sign k (mark Colon) ∷ ts) x rest → Valued l e ts x rest
      out (opened_key v c) = valued v c
      out (opened_members c) = absurd (elim (members_next c) [ inl h ↦ cc | inr h ↦ cc ])

  pub valued_binds : Binds (left (an_entry (d - 1)) (Made (an_expr (d - 1)) (S.pair e))) (λ g. Entered l g) (left (an_atom d) (Valued l e))
  valued_binds = entry_binds d l some (left (an_entry (d - 1)) (Made (an_expr (d - 1)) (S.pair e))) (Valued l e) (λ ts g mid x rest q c. into q c) (λ ts x rest c. out c) (λ g o s. s) (λ g h. h) (λ g h. h)
    where
      into : {ts mid rest : List Lexeme} {g : Entry} {x : Exp} → Made (an_expr (d - 1)) (S.pair e) ts g mid → Entered l g mid x rest → Valued l e ts x rest
      into (made v) c = valued v c

      out : {ts rest : List Lexeme} {x : Exp} → Valued l e ts x rest → (g : Entry) × (mid : List Lexeme) × Made (an_expr (d - 1)) (S.pair e) ts g mid × Entered l g mid x rest
      out (valued v c) = (_, _, made v, c)

  pub opened_for_carries : (k : ℕ) (ts : List Lexeme) → next_of ts ≡ Some (sign k (word For)) → Carries (left (an_atom d) (Opened l e)) ts (left (an_atom d) (Closed (some_clauses (d - 1)) (set_for l e))) ts
  opened_for_carries k ts h = begun_carries (an_atom d) (Closed (some_clauses (d - 1)) (set_for l e)) (Opened l e) (sign k (word For)) ts h (λ more x rest i c. into more i c) (λ more x rest a c s. out a c) (λ x rest c. no_clauses_left (set_for l e) (d - 1) c refl)
      (some_name ∷ (sign 0 (word In) ∷ (some_name ∷ (sign 0 (mark CloseBrace) ∷ []))), set_for l e (a_clause_of k some_exp some_exp [] ∷ []), closed_by (short_clauses k), tt, set_for_fits d l e (a_clause_of k some_exp some_exp [] ∷ []) (omega (arith, some)) f (omega (arith, some), omega arith))
    where
      into : (more : List Lexeme) {rest : List Lexeme} {x : Exp} → next_of more ≡ Some (sign k (word For)) → Closed (some_clauses (d - 1)) (set_for l e) more x rest → Opened l e more x rest
      into [] i c = cc
      into (t ∷ more) {rest} {x} i c = let j : t ≡ sign k (word For) = cc in subst (λ u. Opened l e (u ∷ more) x rest) (sym j) (into_for (subst (λ u. Closed (some_clauses (d - 1)) (set_for l e) (u ∷ more) x rest) j c))
        where
          into_for : {us rest : List Lexeme} {x : Exp} → Closed (some_clauses (d - 1)) (set_for l e) (sign k (word For) ∷ us) x rest → Opened l e (sign k (word For) ∷ us) x rest
          into_for (closed_by c) = opened_for c

      out : {more rest : List Lexeme} {x : Exp} → Alike more ts → Opened l e more x rest → Closed (some_clauses (d - 1)) (set_for l e) more x rest
      out a (opened_for c) = closed_by c
      out (inl i) (opened_key v c) = let j = ap sign_at (i ∙ h) in cc
      out (inr i) (opened_key v c) = cc
      out (inl i) (opened_members c) = let j = ap sign_at (i ∙ h) in absurd (elim (members_next c) [ inl g ↦ (let m = sym g ∙ j in cc) | inr g ↦ (let m = sym g ∙ j in cc) ])
      out (inr i) (opened_members c) = let j = ap (λ u. sign_at (next_of u)) i in absurd (elim (members_next c) [ inl g ↦ (let m = sym g ∙ j in cc) | inr g ↦ (let m = sym g ∙ j in cc) ])

  pub opened_for_binds : Binds (some_clauses (d - 1)) (λ cs. Through (IsSign (mark CloseBrace)) (Just (set_for l e cs))) (left (an_atom d) (Closed (some_clauses (d - 1)) (set_for l e)))
  opened_for_binds = clauses_binds d (set_for l e) (λ cs k. (omega (arith, k.0), omega (arith, k.1))) (λ cs k. set_for_fits d l e cs (omega (arith, some)) f k)

  pub opened_narrows : (ts : List Lexeme) → sign_at (next_of ts) ≢ Some (mark Colon) → sign_at (next_of ts) ≢ Some (word For) → Narrows ts (left (an_atom d) (Members l e)) (left (an_atom d) (Opened l e))
  opened_narrows ts n m = record { into = λ more x rest k. opened_members k; out = λ more x rest a k s. (out a k, s); stop = λ x o s. s; up = λ x k. k; down = λ x k. k }
    where
      out : {more rest : List Lexeme} {x : Exp} → Alike more ts → Opened l e more x rest → Members l e more x rest
      out a (opened_members k) = k
      out (inl i) (opened_key v k) = absurd (n (sym (ap sign_at i)))
      out (inr i) (opened_key v k) = cc
      out (inl i) (opened_for k) = absurd (m (sym (ap sign_at i)))
      out (inr i) (opened_for k) = cc

-- how what follows an expression begins
opened_stops : (r : ℕ) → r < 12 → {l : ℕ} {e : Exp} {ts rest : List Lexeme} {x : Exp} → Opened l e ts x rest → (b : Bool) → (r < rank_at (next_of ts)) × Apart b (next_of ts)
opened_stops r h (opened_key {k = k} v c) b = (h, apart_mark b k Colon)
opened_stops r h (opened_for {k = k} c) b = (h, apart_word_for b k)
opened_stops r h (opened_members (members (no_comma {ts = _}))) b = (h, apart_mark b _ CloseBrace)
opened_stops r h (opened_members (members (last_comma {l = k}))) b = (h, apart_mark b k Comma)
opened_stops r h (opened_members (members (more_items {l = k} q c))) b = (h, apart_mark b k Comma)

members_stops : (r : ℕ) → r < 12 → {l : ℕ} {e : Exp} {ts rest : List Lexeme} {x : Exp} → Members l e ts x rest → (b : Bool) → (r < rank_at (next_of ts)) × Apart b (next_of ts)
members_stops r h k b = opened_stops r h (opened_members k) b

opened_fits : (d l : ℕ) (e : Exp) {ts rest : List Lexeme} {x : Exp} → Opened l e ts x rest → Fits d x → Fits (d - 1) e
opened_fits d l e (opened_key {v = v} q c) f = let h = entered_fits d l (S.pair e v) c f in (omega (arith, h.0), omega (arith, h.1))
opened_fits d l e (opened_for c) f = (omega (arith, f.0), omega (arith, f.1))
opened_fits d l e (opened_members c) f = members_fits d l e c f

-- what begins with an entry, with an item and with an expression
pub data ByEntry (l : ℕ) : List Lexeme → Exp → List Lexeme → Type 0 where
  first_entry : {ts mid rest : List Lexeme} {g : Entry} {x : Exp} → OneEntry ts g mid → Entered l g mid x rest → ByEntry l ts x rest

pub data ByItem (l : ℕ) : List Lexeme → Exp → List Lexeme → Type 0 where
  first_item : {ts mid rest : List Lexeme} {e x : Exp} → Item Whole ts e mid → Members l e mid x rest → ByItem l ts x rest

pub data ByExpr (l : ℕ) : List Lexeme → Exp → List Lexeme → Type 0 where
  first_expr : {ts mid rest : List Lexeme} {e x : Exp} → Expr ts e mid → Opened l e mid x rest → ByExpr l ts x rest

pub content_spread : (d l : ℕ) (ts : List Lexeme) → sign_at (next_of ts) ≡ Some (Operator (Plain Pow)) → Narrows ts (left (an_atom d) (ByEntry l)) (left (an_atom d) (Content l))
content_spread d l ts h = record { into = λ more x rest k. into k; out = λ more x rest a k s. (out a k, s); stop = λ x o s. s; up = λ x f. f; down = λ x f. f }
  where
    into : {more rest : List Lexeme} {x : Exp} → ByEntry l more x rest → Content l more x rest
    into (first_entry q k) = by_entry q k

    none : {more mid : List Lexeme} {e : Exp} → Alike more ts → Item Whole more e mid → ⊥
    none (inl i) q = let j = sym (item_begins q) ∙ ap (begins_item Whole) (i ∙ (signed_next (next_of ts) h).1) in cc
    none (inr i) q = let j = sym (item_begins q) ∙ ap (λ u. begins_item Whole (next_of u)) i in cc

    out : {more rest : List Lexeme} {x : Exp} → Alike more ts → Content l more x rest → ByEntry l more x rest
    out a (by_entry q k) = first_entry q k
    out a (by_item q k) = absurd (none a q)
    out a (by_expr q k) = absurd (none a (unstarred q))

pub spread_binds : (d l : ℕ) → 1 < d → Binds (an_entry (d - 1)) (λ g. Entered l g) (left (an_atom d) (ByEntry l))
spread_binds d l some = entry_binds d l some (an_entry (d - 1)) (ByEntry l) (λ ts g mid x rest q k. first_entry q k) (λ ts x rest k. out k) (λ g o s. s) (λ g f. f) (λ g f. f)
  where
    out : {ts rest : List Lexeme} {x : Exp} → ByEntry l ts x rest → (g : Entry) × (mid : List Lexeme) × OneEntry ts g mid × Entered l g mid x rest
    out (first_entry q k) = (_, _, q, k)

pub content_star : (d l : ℕ) (ts : List Lexeme) → sign_at (next_of ts) ≡ Some (Operator (Plain Mul)) → Narrows ts (left (an_atom d) (ByItem l)) (left (an_atom d) (Content l))
content_star d l ts h = record { into = λ more x rest k. into k; out = λ more x rest a k s. (out a k, s); stop = λ x o s. s; up = λ x f. f; down = λ x f. f }
  where
    into : {more rest : List Lexeme} {x : Exp} → ByItem l more x rest → Content l more x rest
    into (first_item q k) = by_item q k

    no_entry : {more mid : List Lexeme} {g : Entry} → Alike more ts → OneEntry more g mid → ⊥
    no_entry (inl i) q = let j = sym (entry_begins q) ∙ ap begins_entry (i ∙ (signed_next (next_of ts) h).1) in cc
    no_entry (inr i) q = let j = sym (entry_begins q) ∙ ap (λ u. begins_entry (next_of u)) i in cc

    no_expr : {more mid : List Lexeme} {e : Exp} → Alike more ts → Expr more e mid → ⊥
    no_expr (inl i) q = no_star q (ap sign_at i ∙ h)
    no_expr (inr i) q = let j = sym (item_begins (unstarred q)) ∙ ap (λ u. begins_item Whole (next_of u)) i in cc

    out : {more rest : List Lexeme} {x : Exp} → Alike more ts → Content l more x rest → ByItem l more x rest
    out a (by_entry q k) = absurd (no_entry a q)
    out a (by_item q k) = first_item q k
    out a (by_expr q k) = absurd (no_expr a q)

pub star_binds : (d l : ℕ) → 1 < d → Binds (an_item Whole (d - 1)) (λ e. Members l e) (left (an_atom d) (ByItem l))
star_binds d l some = record {
  intro = λ ts y mid x rest q k. first_item q k;
  inv = λ ts x rest k n. out k;
  down = λ y mid x rest k f. members_fits d l y k f;
  finish = λ y f. (sign 0 (mark CloseBrace) ∷ [], S.set l (all_of (y ∷ [])), (omega (arith, f.0, some), omega (arith, f.1)), λ z. members no_comma);
  extend = λ y. (sign 0 (mark CloseBrace) ∷ [], S.set l (all_of (y ∷ [])), λ z. members no_comma);
}
  where
    out : {ts rest : List Lexeme} {x : Exp} → ByItem l ts x rest → (y : Exp) × (mid : List Lexeme) × Item Whole ts y mid × Stops (item_rank Whole y) y (next_of mid) × Members l y mid x rest
    out (first_item {e = e} q k) = (e, _, q, members_stops (item_rank Whole e) (omega (arith, rank_small Whole e)) k (ends_in_text e), k)

pub content_expr : (d l : ℕ) (ts : List Lexeme) → sign_at (next_of ts) ≢ Some (Operator (Plain Pow)) → sign_at (next_of ts) ≢ Some (Operator (Plain Mul)) → Narrows ts (left (an_atom d) (ByExpr l)) (left (an_atom d) (Content l))
content_expr d l ts n m = record { into = λ more x rest k. into k; out = λ more x rest a k s. (out a k, s); stop = λ x o s. s; up = λ x f. f; down = λ x f. f }
  where
    into : {more rest : List Lexeme} {x : Exp} → ByExpr l more x rest → Content l more x rest
    into (first_expr q k) = by_expr q k

    out : {more rest : List Lexeme} {x : Exp} → Alike more ts → Content l more x rest → ByExpr l more x rest
    out a (by_entry (a_pair k v) c) = first_expr k (opened_key v c)
    out (inl i) (by_entry (a_spread_entry k) c) = absurd (n (sym (ap sign_at i)))
    out (inr i) (by_entry (a_spread_entry k) c) = cc
    out a (by_item (unstarred q) k) = first_expr q (opened_members k)
    out (inl i) (by_item (starred q) k) = absurd (m (sym (ap sign_at i)))
    out (inr i) (by_item (starred q) k) = cc
    out a (by_expr q k) = first_expr q k

pub expr_opens : (d l : ℕ) → 1 < d → Binds (an_expr (d - 1)) (λ e. Opened l e) (left (an_atom d) (ByExpr l))
expr_opens d l some = record {
  intro = λ ts y mid x rest q k. first_expr q k;
  inv = λ ts x rest k n. out k;
  down = λ y mid x rest k f. opened_fits d l y k f;
  finish = λ y f. (sign 0 (mark CloseBrace) ∷ [], S.set l (all_of (y ∷ [])), (omega (arith, f.0, some), omega (arith, f.1)), λ z. opened_members (members no_comma));
  extend = λ y. (sign 0 (mark CloseBrace) ∷ [], S.set l (all_of (y ∷ [])), λ z. opened_members (members no_comma));
}
  where
    out : {ts rest : List Lexeme} {x : Exp} → ByExpr l ts x rest → (y : Exp) × (mid : List Lexeme) × Expr ts y mid × Stops 11 y (next_of mid) × Opened l y mid x rest
    out (first_expr {e = e} q k) = (e, _, q, opened_stops 11 (omega arith) k (ends_in_text e), k)

-- what follows an opening brace
pub data Braced (l : ℕ) : List Lexeme → Exp → List Lexeme → Type 0 where
  nothing : {m : ℕ} {rest : List Lexeme} → Braced l (sign m (mark CloseBrace) ∷ rest) (S.dict l S.no_entries) rest
  something : {ts rest : List Lexeme} {x : Exp} → Content l ts x rest → Braced l ts x rest

pub brace_shifts : (d l : ℕ) → Shifts (sign l (mark OpenBrace)) (left (an_atom d) (Braced l)) (an_atom d)
brace_shifts d l = record { intro = λ ts x rest k. into k; inv = λ ts x rest k s. (out k, s); stop = λ x o s. s; up = λ x f. f; down = λ x f. f }
  where
    from_entry : {ts mid rest : List Lexeme} {g : Entry} {x : Exp} → OneEntry ts g mid → Entered l g mid x rest → Atom (sign l (mark OpenBrace) ∷ ts) x rest
    from_entry q (entered k) = a_dict (dictionary q k)
    from_entry q (entered_for k) = a_dict_comprehension q k

    from_item : {ts mid rest : List Lexeme} {e x : Exp} → Item Whole ts e mid → Members l e mid x rest → Atom (sign l (mark OpenBrace) ∷ ts) x rest
    from_item q (members k) = a_set (exprs q k)

    from_expr : {ts mid rest : List Lexeme} {e x : Exp} → Expr ts e mid → Opened l e mid x rest → Atom (sign l (mark OpenBrace) ∷ ts) x rest
    from_expr q (opened_key v k) = from_entry (a_pair q v) k
    from_expr q (opened_for k) = a_set_comprehension q k
    from_expr q (opened_members k) = from_item (unstarred q) k

    into : {ts rest : List Lexeme} {x : Exp} → Braced l ts x rest → Atom (sign l (mark OpenBrace) ∷ ts) x rest
    into nothing = no_dict
    into (something (by_entry q k)) = from_entry q k
    into (something (by_item q k)) = from_item q k
    into (something (by_expr q k)) = from_expr q k

    out : {ts rest : List Lexeme} {x : Exp} → Atom (sign l (mark OpenBrace) ∷ ts) x rest → Braced l ts x rest
    out no_dict = nothing
    out (a_dict (dictionary q k)) = something (by_entry q (entered k))
    out (a_dict_comprehension q k) = something (by_entry q (entered_for k))
    out (a_set (exprs q k)) = something (by_item q (members k))
    out (a_set_comprehension q k) = something (by_expr q (opened_for k))

-- how the content begins
starts_content : (next : Option Lexeme) → begins_item Whole next ≡ true → begins_content next ≡ true
starts_content (Some (sign l (Operator (Plain Pow)))) b = refl
starts_content (Some (sign l _)) b = b
starts_content (Some _) b = b
starts_content None b = b

content_begins : {l : ℕ} {ts rest : List Lexeme} {x : Exp} → Content l ts x rest → begins_content (next_of ts) ≡ true
content_begins (by_entry (a_spread_entry q) k) = refl
content_begins {ts = ts} (by_entry (a_pair q v) k) = starts_content (next_of ts) (item_begins (unstarred q))
content_begins {ts = ts} (by_item q k) = starts_content (next_of ts) (item_begins q)
content_begins {ts = ts} (by_expr q k) = starts_content (next_of ts) (item_begins (unstarred q))

pub empty_dict : (d l m : ℕ) → 0 < d → (ts : List Lexeme) → next_of ts ≡ Some (sign m (mark CloseBrace)) → Found (left (an_atom d) (Braced l)) ts (S.dict l S.no_entries) (behind ts)
empty_dict d l m h ts e = found_at (at_next ts e) record {
  front = sign m (mark CloseBrace) ∷ [];
  whole = refl;
  reads = λ more. nothing;
  stops = tt;
  fits = (omega arith, omega arith);
  only = λ more a x' rest' k n. out k;
}
  where
    out : {more rest' : List Lexeme} {x' : Exp} → Braced l (sign m (mark CloseBrace) ∷ more) x' rest' → (x' ≡ S.dict l S.no_entries) × (rest' ≡ more)
    out nothing = (refl, refl)
    out (something k) = let h = content_begins k in cc

pub content_narrows : (d l : ℕ) (ts : List Lexeme) → sign_at (next_of ts) ≢ Some (mark CloseBrace) → Narrows ts (left (an_atom d) (Content l)) (left (an_atom d) (Braced l))
content_narrows d l ts n = record { into = λ more x rest k. something k; out = λ more x rest a k s. (out a k, s); stop = λ x o s. s; up = λ x f. f; down = λ x f. f }
  where
    out : {more rest : List Lexeme} {x : Exp} → Alike more ts → Braced l more x rest → Content l more x rest
    out a (something k) = k
    out (inl e) nothing = absurd (n (sym (ap sign_at e)))
    out (inr e) nothing = cc

pub braces_bad : (d l : ℕ) (ts : List Lexeme) → 0 < d → sign_at (next_of ts) ≢ Some (mark CloseBrace) → begins_content (next_of ts) ≡ false → Refused (left (an_atom d) (Braced l)) false ts ts
braces_bad d l ts h n b = bad_refused (left (an_atom d) (Braced l)) ts (λ more a x' rest' k s. out a k) (sign 0 (mark CloseBrace) ∷ []) (S.dict l S.no_entries) (omega arith, omega arith) (λ z. nothing)
  where
    out : {more rest : List Lexeme} {x : Exp} → Alike more ts → Braced l more x rest → ⊥
    out (inl e) nothing = n (sym (ap sign_at e))
    out (inr e) nothing = cc
    out (inl e) (something k) = let g = sym (content_begins k) ∙ ap begins_content e ∙ b in cc
    out (inr e) (something k) = let g = sym (content_begins k) ∙ ap (λ u. begins_content (next_of u)) e in cc

-- no room for the content
depth_of_entry : (g : Entry) → 0 < depth_entry g
depth_of_entry (S.pair k v) = omega (arith, depth_some k)
depth_of_entry (S.spread_entry l e) = depth_some e

content_deep : {l : ℕ} {ts rest : List Lexeme} {x : Exp} → Content l ts x rest → Fits 1 x → ⊥
content_deep {l} (by_entry {g = g} q k) f = omega (arith, (entered_fits 1 l g k f).0, depth_of_entry g)
content_deep {l} (by_item {e = e} q k) f = omega (arith, (members_fits 1 l e k f).0, depth_some e)
content_deep {l} (by_expr {e = e} q k) f = omega (arith, (opened_fits 1 l e k f).0, depth_some e)

content_plain : (t : Lexeme) → begins_content (Some t) ≡ true → (sign_of t ≡ Some (Operator (Plain Pow))) ⊎ (begins_item Whole (Some t) ≡ true)
content_plain (sign l (Operator (Plain Pow))) b = inl refl
content_plain (sign l _) b = inr b
content_plain _ b = inr b

far_content : (l : ℕ) (t : Lexeme) → begins_content (Some t) ≡ true → (w : List Lexeme) × (x : Exp) × ((z : List Lexeme) → Content l (t ∷ (w ++ z)) x z)
far_content l t b = elim (content_plain t b) [
  | inl h ↦ let f = far_spread t h in (f.0 ++ (sign 0 (mark CloseBrace) ∷ []), S.dict l (entries_of (f.1 ∷ [])), λ z. rw append_assoc (by_entry (f.2 (sign 0 (mark CloseBrace) ∷ z)) (entered entries_end)))
  | inr h ↦ let f = far_item Whole t h in (f.0 ++ (sign 0 (mark CloseBrace) ∷ []), S.set l (all_of (f.1 ∷ [])), λ z. rw append_assoc (by_item (f.2 (sign 0 (mark CloseBrace) ∷ z)) (members no_comma)))
]

pub braces_over : (l : ℕ) (ts : List Lexeme) → sign_at (next_of ts) ≢ Some (mark CloseBrace) → begins_content (next_of ts) ≡ true → Refused (left (an_atom 1) (Braced l)) true ts ts
braces_over l ts n b =
    let t = content_token (next_of ts) b in
    let w = far_content l t.0 (sym (ap begins_content t.1) ∙ b) in
    over_refused_at (left (an_atom 1) (Braced l)) t.0 ts t.1 (λ more x' rest' k s f. deep (ap sign_at t.1) k f) w.0 w.1 (λ z. something (w.2 z)) (sign 0 (mark CloseBrace) ∷ []) (S.dict l S.no_entries) (omega arith, omega arith) (λ z. nothing)
  where
    content_token : (next : Option Lexeme) → begins_content next ≡ true → (t : Lexeme) × (next ≡ Some t)
    content_token (Some t) b = (t, refl)
    content_token None b = cc

    deep : {t : Lexeme} {us rest : List Lexeme} {x : Exp} → sign_at (next_of ts) ≡ sign_of t → Braced l (t ∷ us) x rest → Fits 1 x → ⊥
    deep e nothing f = n e
    deep e (something k) f = content_deep k f
