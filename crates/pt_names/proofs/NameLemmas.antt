-- Names by their texts.
use Rattle.std.proofs.Common.{◌≡◌, ◌∙◌, ◌+◌, ◌++◌, ℕ, zero, suc, take, Bool, true, false, cond, List, [], ◌∷◌, Option, None, Some, IsSome, refl, ap, sym}
use Rattle.std.specs.Prelude.{String, string_bytes, string_eq, slice_get}
use Rattle.std.specs.Option.{option_map}
use Rattle.std.specs.List.{IsDistinct, AllByRecursion}
use Rattle.std.proofs.lemmas.Option.{slice_get-map}
use Rattle.pt_heap.proofs.HoleLemmas.{lookup-before, take-next}
use Rattle.std.specs.Map.{lookup, set_value, keys_of}
use Rattle.std.specs.Str.{bytes_eq}
use Rattle.indexmap.specs.IndexMap.{insert_entry}
use Rattle.pt_heap.specs.declared.value.Value.{Value}
use Rattle.pt_names.specs.Names.{by_text}

abbrev pub Entries : Type 0 → Type 0
Entries A = List (String A × Option Value)

pub lookup-by_text : {A : Type 0} (name : List ℕ) (es : Entries A) → lookup (λ k. bytes_eq name (string_bytes k)) es ≡ lookup (bytes_eq name) (by_text es)
lookup-by_text name [] = refl
lookup-by_text name (e ∷ es) = ap (cond (bytes_eq name (string_bytes e.0)) (Some e.1)) (lookup-by_text name es)

pub by_text-append : {A : Type 0} (xs ys : Entries A) → by_text (xs ++ ys) ≡ by_text xs ++ by_text ys
by_text-append [] ys = refl
by_text-append (x ∷ xs) ys = ap (λ l. (string_bytes x.0, x.1) ∷ l) (by_text-append xs ys)

-- a name that is there keeps its place and takes the value
pub by_text-written : {A : Type 0} (name : List ℕ) (v : Option Value) (es : Entries A) → IsSome (lookup (λ k. bytes_eq name (string_bytes k)) es)
    → by_text (set_value (λ k. bytes_eq name (string_bytes k)) es v) ≡ insert_entry bytes_eq (by_text es) name v
by_text-written name v [] h = cc
by_text-written {A} name v (e ∷ es) h = by (by_text-written name v es) (bytes_eq name (string_bytes e.0)) h
  where
    by : (IsSome (lookup (λ k. bytes_eq name (string_bytes k)) es) → by_text (set_value (λ k. bytes_eq name (string_bytes k)) es v) ≡ insert_entry bytes_eq (by_text es) name v)
        → (b : Bool) → IsSome (cond b (Some e.1) (lookup (λ k. bytes_eq name (string_bytes k)) es))
        → by_text (cond b ((e.0, v) ∷ es) (e ∷ set_value (λ k. bytes_eq name (string_bytes k)) es v)) ≡ cond b ((string_bytes e.0, v) ∷ by_text es) ((string_bytes e.0, e.1) ∷ insert_entry bytes_eq (by_text es) name v)
    by rest true s = refl
    by rest false s = ap (λ l. (string_bytes e.0, e.1) ∷ l) (rest s)

-- a new name goes last
pub insert_entry-last : (name : List ℕ) (v : Option Value) (ns : List (List ℕ × Option Value)) → lookup (bytes_eq name) ns ≡ None
    → insert_entry bytes_eq ns name v ≡ ns ++ (name, v) ∷ []
insert_entry-last name v [] h = refl
insert_entry-last name v (e ∷ es) h = by (insert_entry-last name v es) (bytes_eq name e.0) h
  where
    by : (lookup (bytes_eq name) es ≡ None → insert_entry bytes_eq es name v ≡ es ++ (name, v) ∷ []) → (b : Bool) → cond b (Some e.1) (lookup (bytes_eq name) es) ≡ None → cond b ((e.0, v) ∷ es) (e ∷ insert_entry bytes_eq es name v) ≡ e ∷ (es ++ (name, v) ∷ [])
    by rest true s = cc
    by rest false s = ap (λ l. e ∷ l) (rest s)

by_text-take : {A : Type 0} (n : ℕ) (es : Entries A) → by_text (take n es) ≡ take n (by_text es)
by_text-take zero es = refl
by_text-take (suc n) [] = refl
by_text-take (suc n) (e ∷ es) = ap (λ l. (string_bytes e.0, e.1) ∷ l) (by_text-take n es)

-- texts differ where names do
pub distinct_texts : {A : Type 0} (es : Entries A) → IsDistinct string_eq (keys_of es) → IsDistinct bytes_eq (keys_of (by_text es))
unfolding IsDistinct
distinct_texts [] d = tt
distinct_texts {A} (e ∷ es) d = (apart es d.0, distinct_texts es d.1)
  where
    apart : (xs : Entries A) → AllByRecursion (λ y. string_eq e.0 y ≡ false) (keys_of xs) → AllByRecursion (λ y. bytes_eq (string_bytes e.0) y ≡ false) (keys_of (by_text xs))
    apart [] h = tt
    apart (x ∷ xs) h = (h.0, apart xs h.1)

-- a name isn't among those before it
pub absent-before : {A : Type 0} (es : Entries A) (n : ℕ) (e : String A × Option Value) → IsDistinct string_eq (keys_of es) → Some e ≡ slice_get es n
    → lookup (bytes_eq (string_bytes e.0)) (by_text (take n es)) ≡ None
absent-before es n e d h =
    let at : Some (string_bytes e.0, e.1) ≡ slice_get (by_text es) n = ap (option_map (λ e. (string_bytes e.0, e.1))) h ∙ sym (slice_get-map (λ e. (string_bytes e.0, e.1)) es n) in
    ap (lookup (bytes_eq (string_bytes e.0))) (by_text-take n es) ∙ lookup-before (by_text es) n (string_bytes e.0, e.1) (distinct_texts es d) at

-- one more is copied
pub by_text-next : {A : Type 0} (es : Entries A) (n : ℕ) (e : String A × Option Value) → Some e ≡ slice_get es n
    → by_text (take n es) ++ (string_bytes e.0, e.1) ∷ [] ≡ by_text (take (n + 1) es)
by_text-next es n e h = sym (ap by_text (take-next es n e h) ∙ by_text-append (take n es) (e ∷ []))
