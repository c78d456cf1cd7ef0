-- Entries, and places of which some are holes.
use Rattle.std.proofs.Common.{◌≡◌, ◌+◌, ◌-◌, ◌<◌, ◌≤◌, ℕ, zero, suc, Bool, true, false, not, cond, List, [], ◌∷◌, ◌++◌, length, take, drop, set, filter, map, Option, None, Some, slice_get, refl, sym, ap, ◌∙◌, subst, arith, add-one, length-append, ◌≢◌, get_or, lt-ltb, is_some, true≢false, rules}
use Rattle.std.specs.Str.{bytes_eq}
use Rattle.std.specs.Map.{lookup, set_value, keys_of}
use Rattle.std.specs.List.{IsDistinct, AllByRecursion, position, position_or_len}
use Rattle.std.proofs.lemmas.List.{length-map}
use Rattle.std.proofs.Math.Seq.{take-append_seam, get_or-append_seam}
use Rattle.indexmap.specs.IndexMap.{swap_remove_entry}
use Rattle.indexmap.proofs.MapLemmas.{swap_remove_entry-found, absent_before}
use Rattle.std.specs.Cmp.{IsEquivalence}
use Rattle.std.specs.Cmp.Rules.{comparing}
use Rattle.std.proofs.lemmas.Map.Keys.{IsDistinct-tail, IsDistinct-head}
use Rattle.std.proofs.lemmas.Map.Made.{IsDistinct-keys_filter}
use Rattle.std.proofs.lemmas.Slice.Eq.{bytes_eq-Decides}
use Rattle.pt_heap.specs.declared.items.Item.{Item}
use Rattle.pt_heap.specs.declared.value.Value.{Value}
use Rattle.pt_heap.specs.Entries.{Entry, found, put, without, HaveDistinctKeys}
use Rattle.pt_heap.specs.Holes.{entries_of, entry_of, entry_at, joined, has_item, AreHoles}

-- the value of an item
abbrev pub value_in : Option Item → Option Value
value_in None = None
value_in (Some item) = Some item.value

pub entries_of-append : (xs ys : List (List ℕ × Option Item)) → entries_of (xs ++ ys) ≡ entries_of xs ++ entries_of ys
entries_of-append [] ys = refl
entries_of-append ((k, None) ∷ xs) ys = entries_of-append xs ys
entries_of-append ((k, Some item) ∷ xs) ys = ap (λ es. entry_of k item ∷ es) (entries_of-append xs ys)

pub entries_of-filter : (es : List (List ℕ × Option Item)) → entries_of (filter has_item es) ≡ entries_of es
entries_of-filter [] = refl
entries_of-filter ((k, None) ∷ es) = entries_of-filter es
entries_of-filter ((k, Some item) ∷ es) = ap (λ l. entry_of k item ∷ l) (entries_of-filter es)

pub AreHoles-append : (n : ℕ) (xs ys : List (List ℕ × Option Item)) → AreHoles n xs → AreHoles n (xs ++ ys)
AreHoles-append zero xs ys h = tt
AreHoles-append (suc n) [] ys h = absurd h
AreHoles-append (suc n) ((k, None) ∷ xs) ys h = AreHoles-append n xs ys h
AreHoles-append (suc n) ((k, Some item) ∷ xs) ys h = absurd h

pub AreHoles-within : (n : ℕ) (xs : List (List ℕ × Option Item)) → AreHoles n xs → n ≤ length xs
AreHoles-within zero xs h = omega arith
AreHoles-within (suc n) [] h = absurd h
AreHoles-within (suc n) ((k, None) ∷ xs) h = omega (arith, AreHoles-within n xs h)
AreHoles-within (suc n) ((k, Some item) ∷ xs) h = absurd h

-- one more hole behind those at the start
AreHoles-suc : (n : ℕ) (es : List (List ℕ × Option Item)) → AreHoles n es → n < length es → entry_at es n ≡ None → AreHoles (suc n) es
AreHoles-suc n [] h l e = absurd (omega arith)
AreHoles-suc zero ((k, None) ∷ es) h l e = tt
AreHoles-suc zero ((k, Some item) ∷ es) h l e = cc
AreHoles-suc (suc n) ((k, None) ∷ es) h l e = AreHoles-suc n es h (omega arith) e
AreHoles-suc (suc n) ((k, Some item) ∷ es) h l e = absurd h

pub AreHoles-more : (n : ℕ) (es : List (List ℕ × Option Item)) → AreHoles n es → n < length es → entry_at es n ≡ None → AreHoles (n + 1) es
AreHoles-more n es h l e = subst (λ m. AreHoles m es) (sym (add-one n)) (AreHoles-suc n es h l e)

pub entries_of-drop : (n : ℕ) (es : List (List ℕ × Option Item)) → AreHoles n es → entries_of (drop n es) ≡ entries_of es
entries_of-drop zero es h = refl
entries_of-drop (suc n) [] h = refl
entries_of-drop (suc n) ((k, None) ∷ es) h = entries_of-drop n es h
entries_of-drop (suc n) ((k, Some item) ∷ es) h = absurd h

-- a place with no item is passed over
hole-suc : (n : ℕ) (es : List (List ℕ × Option Item)) → entry_at es n ≡ None → entries_of (drop n es) ≡ entries_of (drop (suc n) es)
hole-suc zero [] e = refl
hole-suc (suc n) [] e = refl
hole-suc zero ((k, None) ∷ es) e = refl
hole-suc zero ((k, Some item) ∷ es) e = cc
hole-suc (suc n) (x ∷ es) e = hole-suc n es e

pub entries_of-hole : (n : ℕ) (es : List (List ℕ × Option Item)) → entry_at es n ≡ None → entries_of (drop n es) ≡ entries_of (drop (n + 1) es)
entries_of-hole n es e = hole-suc n es e ∙ ap (λ m. entries_of (drop m es)) (sym (add-one n))

-- one with an item is the next entry
pub record IsNext (n : ℕ) (es : List (List ℕ × Option Item)) : Type 0 where
  pub entry : Entry
  pub stands : entry_at es n ≡ Some entry
  pub behind : entries_of (drop n es) ≡ entry ∷ entries_of (drop (n + 1) es)

next-suc : (n : ℕ) (es : List (List ℕ × Option Item)) (e : Entry) → entry_at es n ≡ Some e → entries_of (drop n es) ≡ e ∷ entries_of (drop (suc n) es)
next-suc n [] e h = cc
next-suc zero ((k, None) ∷ es) e h = cc
next-suc zero ((k, Some item) ∷ es) e h = let same : entry_of k item ≡ e = cc in ap (λ x. x ∷ entries_of es) same
next-suc (suc n) (x ∷ es) e h = next-suc n es e h

pub entries_of-next : (n : ℕ) (es : List (List ℕ × Option Item)) → (entry_at es n ≡ None → ⊥) → IsNext n es
entries_of-next n es some = by (entry_at es n) refl
  where
    by : (o : Option Entry) → entry_at es n ≡ o → IsNext n es
    by None e = absurd (some e)
    by (Some x) e = record { entry = x; stands = e; behind = next-suc n es x e ∙ ap (λ m. x ∷ entries_of (drop m es)) (sym (add-one n)) }

-- a key has no second place
found-apart : (k : List ℕ) (es : List (List ℕ × Option Item)) → AllByRecursion (λ y. bytes_eq k y ≡ false) (keys_of es) → found k (entries_of es) ≡ None
found-apart k [] h = refl
found-apart k ((j, None) ∷ es) h = found-apart k es h.1
found-apart k ((j, Some item) ∷ es) h = rw h.0 (found-apart k es h.1)

pub found-items : (k : List ℕ) (es : List (List ℕ × Option Item)) → IsDistinct bytes_eq (keys_of es) → found k (entries_of es) ≡ value_in (joined (lookup (bytes_eq k) es))
found-items k [] d = refl
found-items k ((j, None) ∷ es) d = by (bytes_eq k j) refl (found-items k es (IsDistinct-tail bytes_eq j (keys_of es) d))
  where
    by : (b : Bool) → bytes_eq k j ≡ b → found k (entries_of es) ≡ value_in (joined (lookup (bytes_eq k) es)) → found k (entries_of es) ≡ value_in (joined (cond b (Some None) (lookup (bytes_eq k) es)))
    by true e rest = let same = (bytes_eq-Decides k j).0 e in ap (λ x. found x (entries_of es)) same ∙ found-apart j es (IsDistinct-head bytes_eq j (keys_of es) d)
    by false e rest = rest
found-items k ((j, Some item) ∷ es) d = by (bytes_eq k j) (found-items k es (IsDistinct-tail bytes_eq j (keys_of es) d))
  where
    by : (b : Bool) → found k (entries_of es) ≡ value_in (joined (lookup (bytes_eq k) es)) → cond b (Some item.value) (found k (entries_of es)) ≡ value_in (joined (cond b (Some (Some item)) (lookup (bytes_eq k) es)))
    by true rest = refl
    by false rest = rest

-- a key without an entry isn't there once the holes are dropped
pub lookup-filter : (k : List ℕ) (es : List (List ℕ × Option Item)) → found k (entries_of es) ≡ None → lookup (bytes_eq k) (filter has_item es) ≡ None
lookup-filter k [] h = refl
lookup-filter k ((j, None) ∷ es) h = lookup-filter k es h
lookup-filter k ((j, Some item) ∷ es) h = by (bytes_eq k j) h (lookup-filter k es)
  where
    by : (b : Bool) → cond b (Some item.value) (found k (entries_of es)) ≡ None → (found k (entries_of es) ≡ None → lookup (bytes_eq k) (filter has_item es) ≡ None) → cond b (Some (Some item)) (lookup (bytes_eq k) (filter has_item es)) ≡ None
    by true e rest = cc
    by false e rest = rest e

module _ (k : List ℕ) (item : Item) where
  pub entries_of-write : (first v : Value) (es : List (List ℕ × Option Item)) → lookup (bytes_eq k) es ≡ Some (Some item) → entries_of (set_value (bytes_eq k) es (Some (record { first = item.first; value = v }))) ≡ put k first v (entries_of es)
  entries_of-write first v [] h = cc
  entries_of-write first v ((j, None) ∷ es) h = by (bytes_eq k j) h (entries_of-write first v es)
    where
      by : (b : Bool) → cond b (Some None) (lookup (bytes_eq k) es) ≡ Some (Some item)
          → (lookup (bytes_eq k) es ≡ Some (Some item) → entries_of (set_value (bytes_eq k) es (Some (record { first = item.first; value = v }))) ≡ put k first v (entries_of es))
          → entries_of (cond b ((j, Some (record { first = item.first; value = v })) ∷ es) ((j, None) ∷ set_value (bytes_eq k) es (Some (record { first = item.first; value = v })))) ≡ put k first v (entries_of es)
      by true e rest = cc
      by false e rest = rest e
  entries_of-write first v ((j, Some i) ∷ es) h = by (bytes_eq k j) h (entries_of-write first v es)
    where
      by : (b : Bool) → cond b (Some (Some i)) (lookup (bytes_eq k) es) ≡ Some (Some item)
          → (lookup (bytes_eq k) es ≡ Some (Some item) → entries_of (set_value (bytes_eq k) es (Some (record { first = item.first; value = v }))) ≡ put k first v (entries_of es))
          → entries_of (cond b ((j, Some (record { first = item.first; value = v })) ∷ es) ((j, Some i) ∷ set_value (bytes_eq k) es (Some (record { first = item.first; value = v })))) ≡ cond b (record { key = j; first = i.first; value = v } ∷ entries_of es) (entry_of j i ∷ put k first v (entries_of es))
      by true e rest = let same : item ≡ i = cc in ap (λ (x : Item). entry_of j (record { first = x.first; value = v }) ∷ entries_of es) same
      by false e rest = ap (λ l. entry_of j i ∷ l) (rest e)

  pub entries_of-without : (es : List (List ℕ × Option Item)) → lookup (bytes_eq k) es ≡ Some (Some item) → entries_of (set_value (bytes_eq k) es None) ≡ without k (entries_of es)
  entries_of-without [] h = cc
  entries_of-without ((j, None) ∷ es) h = by (bytes_eq k j) h (entries_of-without es)
    where
      by : (b : Bool) → cond b (Some None) (lookup (bytes_eq k) es) ≡ Some (Some item)
          → (lookup (bytes_eq k) es ≡ Some (Some item) → entries_of (set_value (bytes_eq k) es None) ≡ without k (entries_of es))
          → entries_of (cond b ((j, None) ∷ es) ((j, None) ∷ set_value (bytes_eq k) es None)) ≡ without k (entries_of es)
      by true e rest = cc
      by false e rest = rest e
  entries_of-without ((j, Some i) ∷ es) h = by (bytes_eq k j) h (entries_of-without es)
    where
      by : (b : Bool) → cond b (Some (Some i)) (lookup (bytes_eq k) es) ≡ Some (Some item)
          → (lookup (bytes_eq k) es ≡ Some (Some item) → entries_of (set_value (bytes_eq k) es None) ≡ without k (entries_of es))
          → entries_of (cond b ((j, None) ∷ es) ((j, Some i) ∷ set_value (bytes_eq k) es None)) ≡ cond b (entries_of es) (entry_of j i ∷ without k (entries_of es))
      by true e rest = refl
      by false e rest = ap (λ l. entry_of j i ∷ l) (rest e)

  pub AreHoles-write : (n : ℕ) (w : Option Item) (es : List (List ℕ × Option Item)) → lookup (bytes_eq k) es ≡ Some (Some item) → AreHoles n es → AreHoles n (set_value (bytes_eq k) es w)
  AreHoles-write zero w es h a = tt
  AreHoles-write (suc n) w [] h a = absurd a
  AreHoles-write (suc n) w ((j, None) ∷ es) h a = by (bytes_eq k j) h (λ e. AreHoles-write n w es e a)
    where
      by : (b : Bool) → cond b (Some None) (lookup (bytes_eq k) es) ≡ Some (Some item)
          → (lookup (bytes_eq k) es ≡ Some (Some item) → AreHoles n (set_value (bytes_eq k) es w))
          → AreHoles (suc n) (cond b ((j, w) ∷ es) ((j, None) ∷ set_value (bytes_eq k) es w))
      by true e rest = absurd cc
      by false e rest = rest e
  AreHoles-write (suc n) w ((j, Some i) ∷ es) h a = absurd a

-- of entries alone
module _ (k : List ℕ) (first v : Value) where
  pub put-new : (es : List Entry) → found k es ≡ None → put k first v es ≡ es ++ record { key = k; first = first; value = v } ∷ []
  put-new [] h = refl
  put-new (e ∷ es) h = by (bytes_eq k e.key) h (put-new es)
    where
      by : (b : Bool) → cond b (Some e.value) (found k es) ≡ None → (found k es ≡ None → put k first v es ≡ es ++ record { key = k; first = first; value = v } ∷ [])
          → cond b (record { key = e.key; first = e.first; value = v } ∷ es) (e ∷ put k first v es) ≡ e ∷ (es ++ record { key = k; first = first; value = v } ∷ [])
      by true h rest = cc
      by false h rest = ap (λ l. e ∷ l) (rest h)

  pub length-put : (es : List Entry) (old : Value) → found k es ≡ Some old → length (put k first v es) ≡ length es
  length-put [] old h = cc
  length-put (e ∷ es) old h = by (bytes_eq k e.key) h (length-put es old)
    where
      by : (b : Bool) → cond b (Some e.value) (found k es) ≡ Some old → (found k es ≡ Some old → length (put k first v es) ≡ length es)
          → length (cond b (record { key = e.key; first = e.first; value = v } ∷ es) (e ∷ put k first v es)) ≡ suc (length es)
      by true h rest = refl
      by false h rest = ap suc (rest h)

pub length-without : (k : List ℕ) (es : List Entry) (old : Value) → found k es ≡ Some old → length es ≡ length (without k es) + 1
length-without k [] old h = cc
length-without k (e ∷ es) old h = by (bytes_eq k e.key) h (length-without k es old)
  where
    by : (b : Bool) → cond b (Some e.value) (found k es) ≡ Some old → (found k es ≡ Some old → length es ≡ length (without k es) + 1)
        → suc (length es) ≡ length (cond b es (e ∷ without k es)) + 1
    by true h rest = omega arith
    by false h rest = omega (arith, rest h)

-- with x in the place of the first key that passes
abbrev pub replaced : {K X : Type 0} → (K → Bool) → K × X → List (K × X) → List (K × X)
replaced t x [] = []
replaced t x (e ∷ es) = cond (t e.0) (x ∷ es) (e ∷ replaced t x es)

pub entries_of-replaced : (t : List ℕ → Bool) (f : List ℕ) (es : List (List ℕ × Option Item)) → lookup t es ≡ Some None → entries_of (replaced t (f, None) es) ≡ entries_of es
entries_of-replaced t f [] h = refl
entries_of-replaced t f ((j, None) ∷ es) h = by (t j) h (entries_of-replaced t f es)
  where
    by : (b : Bool) → cond b (Some None) (lookup t es) ≡ Some None → (lookup t es ≡ Some None → entries_of (replaced t (f, None) es) ≡ entries_of es)
        → entries_of (cond b ((f, None) ∷ es) ((j, None) ∷ replaced t (f, None) es)) ≡ entries_of es
    by true h rest = refl
    by false h rest = rest h
entries_of-replaced t f ((j, Some i) ∷ es) h = by (t j) h (entries_of-replaced t f es)
  where
    by : (b : Bool) → cond b (Some (Some i)) (lookup t es) ≡ Some None → (lookup t es ≡ Some None → entries_of (replaced t (f, None) es) ≡ entries_of es)
        → entries_of (cond b ((f, None) ∷ es) ((j, Some i) ∷ replaced t (f, None) es)) ≡ entry_of j i ∷ entries_of es
    by true h rest = cc
    by false h rest = ap (λ l. entry_of j i ∷ l) (rest h)

pub AreHoles-replaced : (t : List ℕ → Bool) (f : List ℕ) (n : ℕ) (es : List (List ℕ × Option Item)) → AreHoles n es → AreHoles n (replaced t (f, None) es)
AreHoles-replaced t f zero es a = tt
AreHoles-replaced t f (suc n) [] a = absurd a
AreHoles-replaced t f (suc n) ((j, None) ∷ es) a = by (t j) (AreHoles-replaced t f n es a)
  where
    by : (b : Bool) → AreHoles n (replaced t (f, None) es) → AreHoles (suc n) (cond b ((f, None) ∷ es) ((j, None) ∷ replaced t (f, None) es))
    by true rest = a
    by false rest = rest
AreHoles-replaced t f (suc n) ((j, Some i) ∷ es) a = absurd a

module _ {K X : Type 0} (t : K → Bool) (x : K × X) where
  pub length-replaced : (es : List (K × X)) → length (replaced t x es) ≡ length es
  length-replaced [] = refl
  length-replaced (e ∷ es) = by (t e.0) (length-replaced es)
    where
      by : (b : Bool) → length (replaced t x es) ≡ length es → length (cond b (x ∷ es) (e ∷ replaced t x es)) ≡ suc (length es)
      by true rest = refl
      by false rest = ap suc rest

  -- the first place that passes lies before what is put behind
  first-within : (v : X) (es : List (K × X)) → lookup t es ≡ Some v → position_or_len t (keys_of (es ++ x ∷ [])) < length es
  first-within v [] h = cc
  first-within v (e ∷ es) h = by (t e.0) h (first-within v es)
    where
      by : (b : Bool) → cond b (Some e.1) (lookup t es) ≡ Some v → (lookup t es ≡ Some v → position_or_len t (keys_of (es ++ x ∷ [])) < length es)
          → cond (not b) (1 + position_or_len t (keys_of (es ++ x ∷ []))) 0 < suc (length es)
      by true h rest = omega arith
      by false h rest = omega (arith, rest h)

  set-first : (v : X) (es : List (K × X)) → lookup t es ≡ Some v → set (es ++ x ∷ []) (position_or_len t (keys_of (es ++ x ∷ []))) x ≡ replaced t x es ++ x ∷ []
  set-first v [] h = cc
  set-first v (e ∷ es) h = by (t e.0) h (set-first v es)
    where
      by : (b : Bool) → cond b (Some e.1) (lookup t es) ≡ Some v
          → (lookup t es ≡ Some v → set (es ++ x ∷ []) (position_or_len t (keys_of (es ++ x ∷ []))) x ≡ replaced t x es ++ x ∷ [])
          → set (e ∷ (es ++ x ∷ [])) (cond (not b) (1 + position_or_len t (keys_of (es ++ x ∷ []))) 0) x ≡ cond b (x ∷ es) (e ∷ replaced t x es) ++ x ∷ []
      by true h rest = refl
      by false h rest =
          let n = position_or_len t (keys_of (es ++ x ∷ [])) in
          let one : 1 + n ≡ suc n = omega arith in
          ap (λ m. set (e ∷ (es ++ x ∷ [])) m x) one ∙ ap (λ l. e ∷ l) (rest h)

  -- where x stands last, the key that passes gives it its place
  pub swapped : (v : X) (es : List (K × X)) → lookup t es ≡ Some v → swap_remove_entry t (es ++ x ∷ []) ≡ replaced t x es
  swapped v es h =
      let all = es ++ x ∷ [] in
      let p = position_or_len t (keys_of all) in
      let within : p < length es = first-within v es h in
      let len : length all ≡ length es + 1 = length-append es (x ∷ []) in
      let lt : p < length (keys_of all) = omega (arith, within, len, length-map all (λ (e : K × X). e.0)) in
      let at : position t (keys_of all) ≡ Some p = ap (λ b. cond b (Some p) None) (lt-ltb p (length (keys_of all)) lt) in
      let n : length all - 1 ≡ length es = omega (arith, len) in
      let last : get_or all (length all - 1) x ≡ x = ap (λ m. get_or all m x) n ∙ get_or-append_seam es x [] x in
      swap_remove_entry-found t all p x at
      ∙ (λ j. take (n j) (set all p (last j)))
      ∙ ap (take (length es)) (set-first v es h)
      ∙ ap (λ m. take m (replaced t x es ++ x ∷ [])) (sym (length-replaced es))
      ∙ take-append_seam (replaced t x es) (x ∷ [])

-- a step of the search for an entry by its number
pub number-step : (before behind : List Entry) (e : Entry) (number left : ℕ) → before ≡ e ∷ behind → number ≢ 0 → left ≡ number - 1 → slice_get before number ≡ slice_get behind left
number-step before behind e zero left h ne m = absurd (ne refl)
number-step before behind e (suc n) left h ne m = let same : n ≡ left = omega arith in ap (λ l. slice_get l (suc n)) h ∙ ap (slice_get behind) same

-- where all places behind the holes at the start have items, numbers are places
pub length-entries_of : (es : List (List ℕ × Option Item)) → length (entries_of es) ≤ length es
length-entries_of [] = omega arith
length-entries_of ((k, None) ∷ es) = omega (arith, length-entries_of es)
length-entries_of ((k, Some item) ∷ es) = omega (arith, length-entries_of es)

full-place : (es : List (List ℕ × Option Item)) (n : ℕ) → length (entries_of es) ≡ length es → entry_at es n ≡ slice_get (entries_of es) n
full-place [] n h = refl
full-place ((k, None) ∷ es) n h = absurd (omega (arith, length-entries_of es, h))
full-place ((k, Some item) ∷ es) zero h = refl
full-place ((k, Some item) ∷ es) (suc n) h = full-place es n (omega (arith, h))

pub dense-place : (start : ℕ) (es : List (List ℕ × Option Item)) (n : ℕ) → AreHoles start es → start + length (entries_of es) ≡ length es → entry_at es (start + n) ≡ slice_get (entries_of es) n
dense-place zero es n a h = let z : 0 + n ≡ n = omega arith in ap (entry_at es) z ∙ full-place es n (omega (arith, h))
dense-place (suc s) [] n a h = absurd a
dense-place (suc s) ((k, None) ∷ es) n a h = let z : suc s + n ≡ suc (s + n) = omega arith in ap (entry_at ((k, None) ∷ es)) z ∙ dense-place s es n a (omega (arith, h))
dense-place (suc s) ((k, Some item) ∷ es) n a h = absurd a

-- what is known of a key's place from its item
pub joined-some : (o : Option (Option Item)) (item : Item) → Some item ≡ joined o → o ≡ Some (Some item)
joined-some None item h = cc
joined-some (Some i) item h = ap Some (sym h)

pub hole-from : (k : List ℕ) (es : List (List ℕ × Option Item)) → IsDistinct bytes_eq (keys_of es) → found k (entries_of es) ≡ None → is_some (lookup (bytes_eq k) es) ≡ true → lookup (bytes_eq k) es ≡ Some None
hole-from k es d h there = by (lookup (bytes_eq k) es) (sym (found-items k es d) ∙ h) there
  where
    by : (o : Option (Option Item)) → value_in (joined o) ≡ None → is_some o ≡ true → o ≡ Some None
    by None e s = absurd (true≢false (sym s))
    by (Some None) e s = refl
    by (Some (Some i)) e s = cc

pub without-missing : (k : List ℕ) (es : List Entry) → found k es ≡ None → without k es ≡ es
without-missing k [] h = refl
without-missing k (e ∷ es) h = by (bytes_eq k e.key) h (without-missing k es)
  where
    by : (b : Bool) → cond b (Some e.value) (found k es) ≡ None → (found k es ≡ None → without k es ≡ es) → cond b es (e ∷ without k es) ≡ e ∷ es
    by true h rest = cc
    by false h rest = ap (λ l. e ∷ l) (rest h)

-- equality of lists of numbers is an equivalence
pub bytes_eq_equiv : IsEquivalence bytes_eq
bytes_eq_equiv = search (comparing, rules)

take-suc : {X : Type 0} (xs : List X) (n : ℕ) (x : X) → Some x ≡ slice_get xs n → take (suc n) xs ≡ take n xs ++ x ∷ []
take-suc [] n x h = cc
take-suc (y ∷ ys) zero x h = let same : y ≡ x = cc in ap (λ z. z ∷ []) same
take-suc (y ∷ ys) (suc n) x h = ap (λ l. y ∷ l) (take-suc ys n x h)

-- the front of a list, with one item more
pub take-next : {X : Type 0} (xs : List X) (n : ℕ) (x : X) → Some x ≡ slice_get xs n → take (n + 1) xs ≡ take n xs ++ x ∷ []
take-next xs n x h = ap (λ m. take m xs) (add-one n) ∙ take-suc xs n x h

split-at : {X : Type 0} (xs : List X) (n : ℕ) (x : X) → Some x ≡ slice_get xs n → xs ≡ take n xs ++ x ∷ drop (suc n) xs
split-at [] n x h = cc
split-at (y ∷ ys) zero x h = let same : y ≡ x = cc in ap (λ z. z ∷ ys) same
split-at (y ∷ ys) (suc n) x h = ap (λ l. y ∷ l) (split-at ys n x h)

-- a key isn't among those before it
pub lookup-before : {X : Type 0} (es : List (List ℕ × X)) (n : ℕ) (e : List ℕ × X) → IsDistinct bytes_eq (keys_of es) → Some e ≡ slice_get es n → lookup (bytes_eq e.0) (take n es) ≡ None
lookup-before es n e d h = absent_before bytes_eq_equiv (take n es) (drop (suc n) es) e (subst (λ l. IsDistinct bytes_eq (keys_of l)) (split-at es n e h) d)

pub value-from : (k : List ℕ) (es : List (List ℕ × Option Item)) (item : Item) → IsDistinct bytes_eq (keys_of es) → Some item ≡ joined (lookup (bytes_eq k) es) → found k (entries_of es) ≡ Some item.value
value-from k es item d h = found-items k es d ∙ ap value_in (sym h)

pub none-from : (k : List ℕ) (es : List (List ℕ × Option Item)) → IsDistinct bytes_eq (keys_of es) → None ≡ joined (lookup (bytes_eq k) es) → found k (entries_of es) ≡ None
none-from k es d h = found-items k es d ∙ ap value_in (sym h)

-- the keys of the entries are those of the places with an item
keys-entries : (es : List (List ℕ × Option Item)) → map (λ (e : Entry). e.key) (entries_of es) ≡ keys_of (filter has_item es)
keys-entries [] = refl
keys-entries ((k, None) ∷ es) = keys-entries es
keys-entries ((k, Some item) ∷ es) = ap (λ l. k ∷ l) (keys-entries es)

pub distinct-entries : (es : List (List ℕ × Option Item)) → IsDistinct bytes_eq (keys_of es) → HaveDistinctKeys (entries_of es)
distinct-entries es d = subst (IsDistinct bytes_eq) (sym (keys-entries es)) (IsDistinct-keys_filter bytes_eq has_item es d)

pub next-entry : (n : ℕ) (es : List (List ℕ × Option Item)) (e : Entry) → entry_at es n ≡ Some e → entries_of (drop n es) ≡ e ∷ entries_of (drop (n + 1) es)
next-entry n es e h = next-suc n es e h ∙ ap (λ m. e ∷ entries_of (drop m es)) (sym (add-one n))

pub no-first : {X : Type 0} (xs : List X) → slice_get xs 0 ≡ None → xs ≡ []
no-first [] h = refl
no-first (x ∷ xs) h = cc
