-- A context is put where its exception stands, and all else is put back; and one exception more of a chain of contexts.
use Rattle.std.proofs.Common.{◌≡◌, ◌∙◌, ◌+◌, ◌-◌, ◌<◌, ◌≤◌, ℕ, suc, Bool, true, false, if◌then◌else◌, List, length, set-set, slice_get, Option, Some, None, refl, sym, ap, arith}
use Rattle.std.specs.Prelude.{◌==◌, slice_set}
use Rattle.std.proofs.lemmas.Bool.Decides.{nat_tests}
use Rattle.std.proofs.lemmas.Option.{slice_get_past}
use Rattle.pt_base.specs.declared.numbers.ObjId.{ObjId}
use Rattle.pt_heap.specs.declared.object.Object.{Object}
use Rattle.pt_heap.specs.declared.object.Object.TheVariants as object
use Rattle.pt_heap.specs.declared.object.Error.{Error}
use Rattle.pt_content.proofs.pt_attrs.StoreLemmas.{set-back}
use Rattle.pt_host.specs.Errors.{with_context, context_in, cut_at, cut_within}

-- another object stands there meanwhile
module _ (h : List Object) (id : ObjId) (meanwhile : Object) (c : Option ObjId) where
  pub context_put : (x : Error) → slice_get h id.0 ≡ Some (object.Error x)
      → slice_set (slice_set h id.0 meanwhile) id.0 (object.Error (record x { context = c })) ≡ with_context c id (slice_get h id.0) h
  context_put x is = set-set h id.0 meanwhile (object.Error (record x { context = c })) ∙ ap (λ o. with_context c id o h) (sym is)

  others_stay : (o : Object) → ((x : Error) → o ≡ object.Error x → ⊥) → with_context c id (Some o) h ≡ h
  others_stay (object.Error x) other = absurd (other x refl)
  others_stay _ other = refl

  pub other_put_back : (o : Object) → slice_get h id.0 ≡ Some o → ((x : Error) → o ≡ object.Error x → ⊥)
      → slice_set (slice_set h id.0 meanwhile) id.0 o ≡ with_context c id (slice_get h id.0) h
  other_put_back o is other =
      set-set h id.0 meanwhile o ∙ set-back h id.0 o is ∙ sym (ap (λ p. with_context c id p h) is ∙ others_stay o other)

pub nothing_there : (h : List Object) (id : ObjId) (c : Option ObjId) → length h ≤ id.0 → h ≡ with_context c id (slice_get h id.0) h
nothing_there h id c past = ap (λ o. with_context c id o h) (sym (slice_get_past h id.0 past))

pub cut_more : (h : List Object) (n i : ℕ) (back id : ObjId) → i < n
    → cut_within h (n - i) back id ≡ cut_at (cut_within h (n - (i + 1)) back) back id (context_in (slice_get h id.0)) h
unfolding cut_within
cut_more h n i back id l =
    let one : n - i ≡ suc (n - (i + 1)) = omega arith in
    ap (λ m. cut_within h m back id) one

-- by the context that stands there
module _ (h : List Object) (n i : ℕ) (back id : ObjId) (more : i < n) where
  pub cut_ended : context_in (slice_get h id.0) ≡ None → cut_within h (n - i) back id ≡ h
  cut_ended e = cut_more h n i back id more ∙ ap (λ o. cut_at (cut_within h (n - (i + 1)) back) back id o h) e

  cut_by : (c : ObjId) (b : Bool) → (c.0 == back.0) ≡ b → context_in (slice_get h id.0) ≡ Some c
      → cut_within h (n - i) back id ≡ (if b then with_context None id (slice_get h id.0) h else cut_within h (n - (i + 1)) back c)
  cut_by c b is e =
      cut_more h n i back id more ∙ ap (λ o. cut_at (cut_within h (n - (i + 1)) back) back id o h) e
      ∙ ap (λ x. if x then with_context None id (slice_get h id.0) h else cut_within h (n - (i + 1)) back c) is

  pub cut_there : (c : ObjId) → c.0 ≡ back.0 → context_in (slice_get h id.0) ≡ Some c → cut_within h (n - i) back id ≡ with_context None id (slice_get h id.0) h
  cut_there c same e = cut_by c true (grind (arith, nat_tests)) e

  pub cut_further : (c : ObjId) → (c.0 ≡ back.0 → ⊥) → context_in (slice_get h id.0) ≡ Some c → cut_within h (n - i) back id ≡ cut_within h (n - (i + 1)) back c
  cut_further c other e = cut_by c false (grind (arith, nat_tests)) e

pub cut_none : (h : List Object) (n i : ℕ) (back id : ObjId) → n ≤ i → cut_within h (n - i) back id ≡ h
unfolding cut_within
cut_none h n i back id l = let zero : n - i ≡ 0 = omega arith in ap (λ m. cut_within h m back id) zero
