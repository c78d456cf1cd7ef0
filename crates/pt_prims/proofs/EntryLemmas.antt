-- What dictionaries and sets name lies in the heap: what is put in, what is left, what is found, and what two sets have together.
use Rattle.std.proofs.Common.{◌≡◌, ◌++◌, ℕ, Bool, true, false, not, List, [], ◌∷◌, Option, None, Some, if◌then◌else◌, length, slice_get, zero, suc, refl, subst}
use Rattle.std.specs.Prelude.{nat_lt}
use Rattle.std.specs.Option.{option_map}
use Rattle.std.specs.List.{filter}
use Rattle.std.specs.Str.{bytes_eq}
use Rattle.pt_base.specs.declared.operators.BinOp.{BinOp}
use Rattle.pt_base.specs.declared.operators.BinOp.TheVariants.{Sub, BitAnd, BitOr, BitXor}
use Rattle.pt_heap.specs.declared.value.Value.{Value}
use Rattle.pt_heap.specs.declared.object.Object.{Object}
use Rattle.pt_heap.specs.Entries.{Entry, found, put, without}
use Rattle.pt_heap.specs.Sound.{IsWithin}
use Rattle.pt_methods.specs.pt_views.Cursors.{entry_at}
use Rattle.pt_content.specs.pt_attrs.pt_dicts.Combine.{combined, difference, has}

abbrev pub AreWithin : List Object → List Entry → Type 0
AreWithin h [] = Unit {0}
AreWithin h (e ∷ es) = IsWithin h e.first × IsWithin h e.value × AreWithin h es

pub put-within : (h : List Object) (k : List ℕ) (first v : Value) (es : List Entry) → IsWithin h first → IsWithin h v → AreWithin h es → AreWithin h (put k first v es)
put-within h k first v [] a b w = (a, b, tt)
put-within h k first v (e ∷ es) a b w = by (bytes_eq k e.key) (put-within h k first v es a b w.2)
  where
    by : (c : Bool) → AreWithin h (put k first v es) → AreWithin h (if c then record { key = e.key; first = e.first; value = v } ∷ es else e ∷ put k first v es)
    by true rest = (w.0, b, w.2)
    by false rest = (w.0, w.1, rest)

pub without-within : (h : List Object) (k : List ℕ) (es : List Entry) → AreWithin h es → AreWithin h (without k es)
without-within h k [] w = tt
without-within h k (e ∷ es) w = by (bytes_eq k e.key) (without-within h k es w.2)
  where
    by : (c : Bool) → AreWithin h (without k es) → AreWithin h (if c then es else e ∷ without k es)
    by true rest = w.2
    by false rest = (w.0, w.1, rest)

pub found-within : (h : List Object) (k : List ℕ) (es : List Entry) (v : Value) → found k es ≡ Some v → AreWithin h es → IsWithin h v
found-within h k [] v e w = absurd cc
found-within h k (x ∷ es) v e w = by (bytes_eq k x.key) e (λ f. found-within h k es v f w.2)
  where
    by : (c : Bool) → (if c then Some x.value else found k es) ≡ Some v → (found k es ≡ Some v → IsWithin h v) → IsWithin h v
    by true f rest = let same : x.value ≡ v = cc in subst (λ y. IsWithin h y) same w.1
    by false f rest = rest f

append-within : (h : List Object) (es fs : List Entry) → AreWithin h es → AreWithin h fs → AreWithin h (es ++ fs)
append-within h [] fs a b = b
append-within h (e ∷ es) fs a b = (a.0, a.1, append-within h es fs a.2 b)

filter-within : (h : List Object) (p : Entry → Bool) (es : List Entry) → AreWithin h es → AreWithin h (filter p es)
filter-within h p [] w = tt
filter-within h p (e ∷ es) w = by (p e) (filter-within h p es w.2)
  where
    by : (c : Bool) → AreWithin h (filter p es) → AreWithin h (if c then e ∷ filter p es else filter p es)
    by true rest = (w.0, w.1, rest)
    by false rest = rest

pub combined-within : (h : List Object) (o : BinOp) (es fs : List Entry) → AreWithin h es → AreWithin h fs → AreWithin h (combined o es fs)
combined-within h BitOr es fs a b = append-within h es (difference fs es) a (filter-within h (λ e. not (has es e)) fs b)
combined-within h BitAnd es fs a b = filter-within h (has fs) es a
combined-within h Sub es fs a b = filter-within h (λ e. not (has fs e)) es a
combined-within h BitXor es fs a b =
    append-within h (difference es fs) (difference fs es) (filter-within h (λ e. not (has fs e)) es a) (filter-within h (λ e. not (has es e)) fs b)
combined-within h o es fs a b = tt

one-entry-within : (h : List Object) (es : List Entry) (i : ℕ) (e : Entry) → slice_get es i ≡ Some e → AreWithin h es → IsWithin h e.first × IsWithin h e.value
one-entry-within h [] i e f w = absurd cc
one-entry-within h (x ∷ es) zero e f w = let same : x ≡ e = cc in subst (λ y. IsWithin h y.first × IsWithin h y.value) same (w.0, w.1)
one-entry-within h (x ∷ es) (suc i) e f w = one-entry-within h es i e f w.2

pub entry-at-within : (h : List Object) (es : List Entry) (i : ℕ) (q : Value × Value) → entry_at es i ≡ Some q → AreWithin h es → IsWithin h q.0 × IsWithin h q.1
entry-at-within h es i q f w = by (nat_lt i (length es)) (slice_get es i) refl f
  where
    by : (c : Bool) (o : Option Entry) → slice_get es i ≡ o → (if c then option_map (λ e. (e.first, e.value)) o else None) ≡ Some q → IsWithin h q.0 × IsWithin h q.1
    by true (Some e) g k = let same : (e.first, e.value) ≡ q = cc in subst (λ p. IsWithin h p.0 × IsWithin h p.1) same (one-entry-within h es i e g w)
    by true None g k = absurd cc
    by false o g k = absurd cc
