-- A cause is put where its exception stands, and all else is put back.
use Rattle.std.proofs.Common.{◌≡◌, ◌∙◌, ◌≤◌, true, List, length, set-set, slice_get, Option, Some, refl, sym, ap}
use Rattle.std.specs.Prelude.{slice_set}
use Rattle.std.proofs.lemmas.Option.{slice_get_past}
use Rattle.pt_base.specs.declared.numbers.ObjId.{ObjId}
use Rattle.pt_heap.specs.declared.object.Object.{Object}
use Rattle.pt_heap.specs.declared.object.Object.TheVariants as object
use Rattle.pt_heap.specs.declared.object.Error.{Error}
use Rattle.pt_content.proofs.pt_attrs.StoreLemmas.{set-back}
use Rattle.pt_moves.specs.sem_rows.pt_host.Raising.{with_cause}

-- another object stands there meanwhile
module _ (h : List Object) (id : ObjId) (meanwhile : Object) (c : Option ObjId) where
  pub cause_put : (x : Error) → slice_get h id.0 ≡ Some (object.Error x)
      → slice_set (slice_set h id.0 meanwhile) id.0 (object.Error (record x { cause = c; hides_context = true })) ≡ with_cause c id (slice_get h id.0) h
  cause_put x is = set-set h id.0 meanwhile (object.Error (record x { cause = c; hides_context = true })) ∙ ap (λ o. with_cause c id o h) (sym is)

  others_stay : (o : Object) → ((x : Error) → o ≡ object.Error x → ⊥) → with_cause c id (Some o) h ≡ h
  others_stay (object.Error x) other = absurd (other x refl)
  others_stay _ other = refl

  pub other_put_back : (o : Object) → slice_get h id.0 ≡ Some o → ((x : Error) → o ≡ object.Error x → ⊥)
      → slice_set (slice_set h id.0 meanwhile) id.0 o ≡ with_cause c id (slice_get h id.0) h
  other_put_back o is other =
      set-set h id.0 meanwhile o ∙ set-back h id.0 o is ∙ sym (ap (λ p. with_cause c id p h) is ∙ others_stay o other)

pub nothing_there : (h : List Object) (id : ObjId) (c : Option ObjId) → length h ≤ id.0 → h ≡ with_cause c id (slice_get h id.0) h
nothing_there h id c past = ap (λ o. with_cause c id o h) (sym (slice_get_past h id.0 past))
