-- Names that an object is given, or that are taken from it, make no function.
use Rattle.std.proofs.Common.{◌≡◌, ℕ, List, Option, Some, None, refl}
use Rattle.std.specs.Prelude.{slice_get, slice_set}
use Rattle.pt_tree.specs.Syntax.{Name}
use Rattle.pt_heap.specs.Entries.{Entry, found, put, without}
use Rattle.pt_heap.specs.declared.value.Value.{Value}
use Rattle.pt_heap.specs.declared.value.Value.TheVariants as value
use Rattle.pt_heap.specs.declared.object.Object.{Object}
use Rattle.pt_heap.specs.declared.object.Object.TheVariants as object
use Rattle.pt_content.specs.pt_attrs.Store.{held, with_names, stored_in, stored_at, assigned, without_name, deleted_in, deleted_at, unassigned}
use Rattle.pt_content.specs.pt_attrs.pt_dicts.Keys.{name_codes}
use Rattle.sem_rows.specs.pt_host.World.{Program}
use Rattle.law_frames.specs.RunNames.{TakesCells, AllTakeCells}
use Rattle.law_frames.proofs.Stores.{all-set, all-get}

module _ (program : Program) where
  abbrev pub ChangedTakes : Option (List Object) → Type 0
  ChangedTakes (Some h) = AllTakeCells program h
  ChangedTakes None = Unit {0}

  named-takes : (o : Object) (ns : List Entry) → TakesCells program o → TakesCells program (with_names o ns)
  named-takes (object.Class c) ns t = tt
  named-takes (object.Instance x) ns t = tt
  named-takes (object.Error x) ns t = tt
  named-takes o ns t = t

  module _ (h : List Object) (all : AllTakeCells program h) (p : ℕ) (key : List ℕ) where
    set-takes : (o : Object) (ns : List Entry) → TakesCells program o → AllTakeCells program (slice_set h p (with_names o ns))
    set-takes o ns t = all-set (TakesCells program) h p (with_names o ns) all (named-takes o ns t)

    stored-takes : (v : Value) (o : Object) (ns : Option (List Entry)) → TakesCells program o → ChangedTakes (stored_in h p key v o ns)
    stored-takes v o None t = tt
    stored-takes v o (Some ns) t = set-takes o (put key value.None v ns) t

    stored-at-takes : (v : Value) (o : Option Object) → slice_get h p ≡ o → ChangedTakes (stored_at h p key v o)
    stored-at-takes v None e = tt
    stored-at-takes v (Some o) e = stored-takes v o (held h o) (all-get (TakesCells program) h p o all e)

    without-takes : (o : Object) (ns : List Entry) (f : Option Value) → TakesCells program o → ChangedTakes (without_name h p key o ns f)
    without-takes o ns None t = tt
    without-takes o ns (Some v) t = set-takes o (without key ns) t

    deleted-takes : (o : Object) (ns : Option (List Entry)) → TakesCells program o → ChangedTakes (deleted_in h p key o ns)
    deleted-takes o None t = tt
    deleted-takes o (Some ns) t = without-takes o ns (found key ns) t

    deleted-at-takes : (o : Option Object) → slice_get h p ≡ o → ChangedTakes (deleted_at h p key o)
    deleted-at-takes None e = tt
    deleted-at-takes (Some o) e = deleted-takes o (held h o) (all-get (TakesCells program) h p o all e)

  pub assigned-takes : (h : List Object) (a : Value) (x : Name) (v : Value) → AllTakeCells program h → ChangedTakes (assigned h a x v)
  assigned-takes h (value.Obj id) x v all = stored-at-takes h all id.0 (name_codes x) v (slice_get h id.0) refl
  assigned-takes h a x v all = tt

  pub unassigned-takes : (h : List Object) (a : Value) (x : Name) → AllTakeCells program h → ChangedTakes (unassigned h a x)
  unassigned-takes h (value.Obj id) x all = deleted-at-takes h all id.0 (name_codes x) (slice_get h id.0) refl
  unassigned-takes h a x all = tt
