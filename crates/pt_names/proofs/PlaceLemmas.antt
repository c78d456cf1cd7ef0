-- Where names stand among others.
use Rattle.std.proofs.Common.{◌≡◌, ◌∙◌, ◌++◌, ℕ, zero, suc, Bool, true, false, cond, not, nat_lt, List, [], ◌∷◌, length, map, Option, None, Some, position, take, refl, ap, sym, subst, arith, lt-ltb, ◌<◌}
use Rattle.std.specs.Prelude.{◌+◌, slice_get, String, string_bytes, string_eq}
use Rattle.std.specs.List.{position_or_len, IsDistinct, AllByRecursion}
use Rattle.std.specs.Map.{lookup, keys_of, values_of}
use Rattle.std.specs.Option.{option_flatten, option_map}
use Rattle.std.proofs.lemmas.Option.{slice_get-map}
use Rattle.std.proofs.lemmas.Slice.Eq.{bytes_eq-Decides}
use Rattle.std.specs.Str.{bytes_eq}
use Rattle.indexmap.specs.IndexMap.{insert_entry, set_value_at}
use Rattle.indexmap.proofs.MapLemmas.{Found-position, Missing-position, insert_entry-first}
use Rattle.pt_heap.proofs.HoleLemmas.{bytes_eq_equiv}
use Rattle.pt_heap.specs.declared.value.Value.{Value}
use Rattle.pt_heap.specs.declared.view.Binding.{Binding}
use Rattle.pt_names.specs.Names.{Named, by_text, place_of, entry_value, unless_placed, with_place, bound_first, bindings_of, StandsFor, KeepsPlace}
use Rattle.pt_names.proofs.NameLemmas.{Entries, by_text-next, distinct_texts}

-- a test passes at this place and at none before it
abbrev First : (List ℕ → Bool) → Named → ℕ → Type 0
First t [] i = ⊥
First t (e ∷ es) zero = t e.0 ≡ true
First t (e ∷ es) (suc i) = (t e.0 ≡ false) × First t es i

first-at : (t : List ℕ → Bool) (ns : Named) (i : ℕ) → position_or_len t (keys_of ns) ≡ i → i < length ns → First t ns i
first-at t [] i h w = absurd (omega arith)
first-at t (e ∷ es) zero h w = by (t e.0) refl h
  where
    by : (b : Bool) → t e.0 ≡ b → cond (not b) (1 + position_or_len t (keys_of es)) 0 ≡ 0 → t e.0 ≡ true
    by true is p = is
    by false is p = absurd (omega (arith, p))
first-at t (e ∷ es) (suc i) h w = by (first-at t es i) (t e.0) refl h
  where
    by : (position_or_len t (keys_of es) ≡ i → i < length es → First t es i)
        → (b : Bool) → t e.0 ≡ b → cond (not b) (1 + position_or_len t (keys_of es)) 0 ≡ suc i → (t e.0 ≡ false) × First t es i
    by rest true is p = absurd (omega (arith, p))
    by rest false is p = (is, rest (omega (arith, p)) (omega (arith, w)))

or_len-first : (t : List ℕ → Bool) (ns : Named) (i : ℕ) → First t ns i → position_or_len t (keys_of ns) ≡ i
or_len-first t [] i h = absurd h
or_len-first t (e ∷ es) zero h = ap (λ b. cond (not b) (1 + position_or_len t (keys_of es)) 0) h
or_len-first t (e ∷ es) (suc i) h =
    ap (λ b. cond (not b) (1 + position_or_len t (keys_of es)) 0) h.0 ∙ ap (λ n. 1 + n) (or_len-first t es i h.1) ∙ omega arith

first-within : (t : List ℕ → Bool) (ns : Named) (i : ℕ) → First t ns i → i < length ns
first-within t [] i h = absurd h
first-within t (e ∷ es) zero h = omega arith
first-within t (e ∷ es) (suc i) h = omega (arith, first-within t es i h.1)

length-keys : (ns : Named) → length (keys_of ns) ≡ length ns
length-keys [] = refl
length-keys (e ∷ es) = ap suc (length-keys es)

index-first : (t : List ℕ → Bool) (ns : Named) (i : ℕ) → First t ns i → position t (keys_of ns) ≡ Some i
index-first t ns i h =
    let within : i < length (keys_of ns) = omega (arith, first-within t ns i h, length-keys ns) in
    ap (λ n. cond (nat_lt n (length (keys_of ns))) (Some n) None) (or_len-first t ns i h) ∙ ap (λ b. cond b (Some i) None) (lt-ltb i _ within)

-- where a place that was found stands
first-found : (t : List ℕ → Bool) (ns : Named) (i : ℕ) → position t (keys_of ns) ≡ Some i → First t ns i
first-found t ns i is = let found = Found-position t ns i is in first-at t ns i found.or_len found.within

first-value : (t : List ℕ → Bool) (ns : Named) (i : ℕ) → First t ns i → entry_value (slice_get ns i) ≡ option_flatten (lookup t ns)
first-value t [] i h = absurd h
first-value t (e ∷ es) zero h = ap (λ b. option_flatten (cond b (Some e.1) (lookup t es))) (sym h)
first-value t (e ∷ es) (suc i) h = first-value t es i h.1 ∙ ap (λ b. option_flatten (cond b (Some e.1) (lookup t es))) (sym h.0)

first-insert : (t : List ℕ → Bool) (other : List ℕ) (v : Option Value) (ns : Named) (i : ℕ) → First t ns i → First t (insert_entry bytes_eq ns other v) i
first-insert t other v [] i h = absurd h
first-insert t other v (e ∷ es) zero h = by (bytes_eq other e.0)
  where
    by : (b : Bool) → First t (cond b ((e.0, v) ∷ es) (e ∷ insert_entry bytes_eq es other v)) zero
    by true = h
    by false = h
first-insert t other v (e ∷ es) (suc i) h = by (first-insert t other v es i h.1) (bytes_eq other e.0)
  where
    by : First t (insert_entry bytes_eq es other v) i → (b : Bool) → First t (cond b ((e.0, v) ∷ es) (e ∷ insert_entry bytes_eq es other v)) (suc i)
    by rest true = h
    by rest false = (h.0, rest)

first-set : (t : List ℕ → Bool) (at : ℕ) (v : Option Value) (ns : Named) (i : ℕ) → First t ns i → First t (set_value_at ns at v) i
first-set t at v [] i h = absurd h
first-set t zero v (e ∷ es) zero h = h
first-set t zero v (e ∷ es) (suc i) h = h
first-set t (suc at) v (e ∷ es) zero h = h
first-set t (suc at) v (e ∷ es) (suc i) h = (h.0, first-set t at v es i h.1)

first-append : (t : List ℕ → Bool) (ns ms : Named) (i : ℕ) → First t ns i → First t (ns ++ ms) i
first-append t [] ms i h = absurd h
first-append t (e ∷ es) ms zero h = h
first-append t (e ∷ es) ms (suc i) h = (h.0, first-append t es ms i h.1)

first-placed : (t : List ℕ → Bool) (other : List ℕ) (ns : Named) (i : ℕ) → First t ns i → First t (with_place other ns) i
first-placed t other ns i h = by (place_of other ns)
  where
    by : (o : Option ℕ) → First t (unless_placed o other ns) i
    by (Some p) = h
    by None = first-append t ns ((other, None) ∷ []) i h

pub stands_for : (name : List ℕ) (names : Named) (place : ℕ) → place_of name names ≡ Some place → StandsFor place name names
stands_for name names place is =
    let found = Found-position (bytes_eq name) names place is in
    (first-value (bytes_eq name) names place (first-found (bytes_eq name) names place is), λ v. sym (insert_entry-first bytes_eq name v names place found.first))

pub keeps : (name : List ℕ) (names : Named) (place : ℕ) → place_of name names ≡ Some place → KeepsPlace place name names
keeps name names place is =
    let test = bytes_eq name in
    let first = first-found test names place is in (
      λ other v. index-first test (insert_entry bytes_eq names other v) place (first-insert test other v names place first),
      λ at v. index-first test (set_value_at names at v) place (first-set test at v names place first),
      λ other. index-first test (with_place other names) place (first-placed test other names place first),
    )

or_len-map : {A : Type 0} (name : List ℕ) (ks : List (String A)) → position_or_len (λ k. bytes_eq name (string_bytes k)) ks ≡ position_or_len (bytes_eq name) (map string_bytes ks)
or_len-map name [] = refl
or_len-map name (k ∷ ks) = ap (λ n. cond (not (bytes_eq name (string_bytes k))) (1 + n) 0) (or_len-map name ks)

texts-by_text : {A : Type 0} (es : Entries A) → map string_bytes (keys_of es) ≡ keys_of (by_text es)
texts-by_text [] = refl
texts-by_text (e ∷ es) = ap (λ l. string_bytes e.0 ∷ l) (texts-by_text es)

length-texts : {A : Type 0} (ks : List (String A)) → length ks ≡ length (map string_bytes ks)
length-texts [] = refl
length-texts (k ∷ ks) = ap suc (length-texts ks)

pub length-by_text : {A : Type 0} (es : Entries A) → length (by_text es) ≡ length es
length-by_text [] = refl
length-by_text (e ∷ es) = ap suc (length-by_text es)

-- where a name stands by its text
pub place-by_text : {A : Type 0} (name : List ℕ) (es : Entries A) → position (λ k. bytes_eq name (string_bytes k)) (keys_of es) ≡ place_of name (by_text es)
place-by_text name es =
    (λ j. cond (nat_lt (or_len-map name (keys_of es) j) (length-texts (keys_of es) j)) (Some (or_len-map name (keys_of es) j)) None)
    ∙ ap (position (bytes_eq name)) (texts-by_text es)

pub set-by_text : {A : Type 0} (es : Entries A) (at : ℕ) (v : Option Value) → by_text (set_value_at es at v) ≡ set_value_at (by_text es) at v
set-by_text [] at v = refl
set-by_text (e ∷ es) zero v = refl
set-by_text (e ∷ es) (suc at) v = ap (λ l. (string_bytes e.0, e.1) ∷ l) (set-by_text es at v)

absent-then-first : (t : List ℕ → Bool) (ns : Named) (name : List ℕ) → position_or_len t (keys_of ns) ≡ length ns → t name ≡ true → First t (ns ++ (name, None) ∷ []) (length ns)
absent-then-first t [] name h y = y
absent-then-first t (e ∷ es) name h y = by (λ p. absent-then-first t es name p y) (t e.0) refl h
  where
    by : (position_or_len t (keys_of es) ≡ length es → First t (es ++ (name, None) ∷ []) (length es))
        → (b : Bool) → t e.0 ≡ b → cond (not b) (1 + position_or_len t (keys_of es)) 0 ≡ suc (length es) → (t e.0 ≡ false) × First t (es ++ (name, None) ∷ []) (length es)
    by rest true is p = absurd (omega (arith, p))
    by rest false is p = (is, rest (omega (arith, p)))

-- a name that is put behind the others stands there
pub placed-last : (name : List ℕ) (names : Named) → place_of name names ≡ None → place_of name (names ++ (name, None) ∷ []) ≡ Some (length names)
placed-last name names none =
    index-first (bytes_eq name) (names ++ (name, None) ∷ []) (length names)
    (absent-then-first (bytes_eq name) names name (Missing-position (bytes_eq name) names none).or_len (bytes_eq_equiv.refl name))

pub with_place-some : (name : List ℕ) (names : Named) (place : ℕ) → place_of name names ≡ Some place → with_place name names ≡ names
with_place-some name names place is = ap (λ o. unless_placed o name names) is

pub with_place-none : (name : List ℕ) (names : Named) → place_of name names ≡ None → with_place name names ≡ names ++ (name, None) ∷ []
with_place-none name names none = ap (λ o. unless_placed o name names) none

bound-append : (name : List ℕ) (value : Option Value) (bs cs : List Binding) → bound_first name value (bs ++ cs) ≡ bound_first name value bs ++ cs
bound-append name None bs cs = refl
bound-append name (Some v) bs cs = refl

pub bindings-append : (ns ms : Named) → bindings_of (ns ++ ms) ≡ bindings_of ns ++ bindings_of ms
bindings-append [] ms = refl
bindings-append (e ∷ es) ms = ap (bound_first e.0 e.1) (bindings-append es ms) ∙ bound-append e.0 e.1 (bindings_of es) (bindings_of ms)

-- where no value stands nothing is written
pub set-none : {A : Type 0} (es : Entries A) (at : ℕ) (v : Option Value) → None ≡ slice_get (values_of es) at → set_value_at es at v ≡ es
set-none [] at v h = refl
set-none (e ∷ es) zero v h = cc
set-none (e ∷ es) (suc at) v h = ap (λ l. e ∷ l) (set-none es at v h)

-- one more of the names is gone through
pub bindings-next : {A : Type 0} (es : Entries A) (n : ℕ) (e : String A × Option Value) → Some e ≡ slice_get es n
    → bindings_of (by_text (take n es)) ++ bindings_of ((string_bytes e.0, e.1) ∷ []) ≡ bindings_of (by_text (take (n + 1) es))
bindings-next es n e h = sym (bindings-append (by_text (take n es)) ((string_bytes e.0, e.1) ∷ [])) ∙ ap bindings_of (by_text-next es n e h)

-- a name that stands at a place of names that differ is the first of its text

all-at : (x : List ℕ) (ns : Named) (i : ℕ) (e : List ℕ × Option Value) → AllByRecursion (λ y. bytes_eq x y ≡ false) (keys_of ns) → Some e ≡ slice_get ns i
    → bytes_eq x e.0 ≡ false
all-at x [] i e d h = absurd (cc)
all-at x (n ∷ ns) zero e d h = let same : n ≡ e = cc in ap (λ m. bytes_eq x m.0) (sym same) ∙ d.0
all-at x (n ∷ ns) (suc i) e d h = all-at x ns i e d.1 h

first-there : (ns : Named) (i : ℕ) (e : List ℕ × Option Value) → IsDistinct bytes_eq (keys_of ns) → Some e ≡ slice_get ns i → First (bytes_eq e.0) ns i
unfolding IsDistinct
first-there [] i e d h = absurd (cc)
first-there (n ∷ ns) zero e d h = let same : n ≡ e = cc in ap (λ m. bytes_eq e.0 m.0) same ∙ bytes_eq_equiv.refl e.0
first-there (n ∷ ns) (suc i) e d h = (bytes_eq_equiv.symm e.0 n.0 ∙ all-at n.0 ns i e d.0 h, first-there ns i e d.1 h)

pub stands_there : {A : Type 0} (name : List ℕ) (es : Entries A) (i : ℕ) (e : String A × Option Value) → IsDistinct string_eq (keys_of es) → Some e ≡ slice_get es i
    → bytes_eq (string_bytes e.0) name ≡ true → place_of name (by_text es) ≡ Some i
stands_there name es i e d h is =
    let at : Some (string_bytes e.0, e.1) ≡ slice_get (by_text es) i =
    ap (option_map (λ e. (string_bytes e.0, e.1))) h ∙ sym (slice_get-map (λ e. (string_bytes e.0, e.1)) es i) in
    subst (λ n. place_of n (by_text es) ≡ Some i) ((bytes_eq-Decides (string_bytes e.0) name).0 is)
    (index-first (bytes_eq (string_bytes e.0)) (by_text es) i (first-there (by_text es) i (string_bytes e.0, e.1) (distinct_texts es d) at))
