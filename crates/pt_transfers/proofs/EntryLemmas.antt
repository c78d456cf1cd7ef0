-- An entry of a traceback is put where its exception stands, and all else is put back.
use Rattle.std.proofs.Common.{◌≡◌, ◌∙◌, ◌≤◌, List, [], ◌∷◌, ◌++◌, length, set-set, slice_get, Some, refl, sym, ap}
use Rattle.std.specs.Prelude.{slice_set}
use Rattle.std.proofs.lemmas.Option.{slice_get_past}
use Rattle.pt_base.specs.declared.numbers.ObjId.{ObjId}
use Rattle.pt_heap.specs.declared.object.Object.{Object}
use Rattle.pt_heap.specs.declared.object.Object.TheVariants as object
use Rattle.pt_heap.specs.declared.object.Error.{Error}
use Rattle.pt_heap.specs.declared.object.TraceEntry.{TraceEntry}
use Rattle.pt_content.proofs.pt_attrs.StoreLemmas.{set-back}
use Rattle.sem_run.specs.run.Host.{Entry}
use Rattle.pt_host.specs.Errors.{trace_entry, with_entry}

-- another object stands there meanwhile
module _ (h : List Object) (id : ObjId) (meanwhile : Object) (e : Entry) where
  pub entry_put : (x : Error) (trace : List TraceEntry) → slice_get h id.0 ≡ Some (object.Error x) → trace ≡ x.trace ++ trace_entry e ∷ []
      → slice_set (slice_set h id.0 meanwhile) id.0 (object.Error (record x { trace = trace })) ≡ with_entry e id (slice_get h id.0) h
  entry_put x trace is longer = set-set h id.0 meanwhile (object.Error (record x { trace = trace }))
      ∙ (ap (λ t. slice_set h id.0 (object.Error (record x { trace = t }))) longer ∙ ap (λ o. with_entry e id o h) (sym is))

  put_back : (o : Object) → slice_get h id.0 ≡ Some o → slice_set (slice_set h id.0 meanwhile) id.0 o ≡ h
  put_back o is = set-set h id.0 meanwhile o ∙ set-back h id.0 o is

  others_stay : (o : Object) → ((x : Error) → o ≡ object.Error x → ⊥) → with_entry e id (Some o) h ≡ h
  others_stay (object.Error x) other = absurd (other x refl)
  others_stay _ other = refl

  pub other_put_back : (o : Object) → slice_get h id.0 ≡ Some o → ((x : Error) → o ≡ object.Error x → ⊥)
      → slice_set (slice_set h id.0 meanwhile) id.0 o ≡ with_entry e id (slice_get h id.0) h
  other_put_back o is other = put_back o is ∙ sym (ap (λ p. with_entry e id p h) is ∙ others_stay o other)

pub nothing_there : (h : List Object) (id : ObjId) (e : Entry) → length h ≤ id.0 → h ≡ with_entry e id (slice_get h id.0) h
nothing_there h id e past = ap (λ o. with_entry e id o h) (sym (slice_get_past h id.0 past))
