-- What `*NAME` and `**NAME` are given makes no function.
use Rattle.std.proofs.Common.{Bool, true, false, List, [], ◌∷◌, length, Option, nat_eq, if◌then◌else◌}
use Rattle.pt_base.specs.declared.what.What.TheVariants.{Length}
use Rattle.pt_heap.specs.Entries.{Entry, put}
use Rattle.pt_heap.specs.Limits.{entry_limit}
use Rattle.pt_heap.specs.declared.value.Value.{Value}
use Rattle.pt_heap.specs.declared.view.Binding.{Binding}
use Rattle.pt_heap.specs.declared.object.Object.{Object}
use Rattle.pt_heap.specs.declared.object.Object.TheVariants as object
use Rattle.pt_content.specs.pt_attrs.pt_dicts.Keys.{name_codes}
use Rattle.pt_bind.specs.declared.arguments.Params.{Params}
use Rattle.pt_bind.specs.declared.arguments.Locals.{Locals}
use Rattle.sem_run.specs.run.Host.{made, beyond}
use Rattle.sem_rows.specs.pt_host.World.{Program, Allotted, allot}
use Rattle.sem_rows.specs.pt_host.Starred.{Values, Entries, behind, entered, entries_from, dict_behind, with_star, with_stars, values_given}
use Rattle.law_frames.specs.RunNames.{AllTakeCells}
use Rattle.law_frames.proofs.Stores.{allotted, AllotsCells}

module _ (program : Program) where
  abbrev pub ValuesTakeCells : Values → Type 0
  ValuesTakeCells (made vs h) = AllTakeCells program h
  ValuesTakeCells (beyond what) = Unit {0}

  abbrev EntriesTakeCells : Entries → Type 0
  EntriesTakeCells (made es h) = AllTakeCells program h
  EntriesTakeCells (beyond what) = Unit {0}

  behind-takes : (vs : List (Option Value)) (a : Allotted) → AllotsCells program a → ValuesTakeCells (behind vs a)
  behind-takes vs (made v h) t = t
  behind-takes vs (beyond what) t = tt

  entered-takes : (b : Binding) (es : List Entry) (a : Allotted) → AllotsCells program a → EntriesTakeCells (entered b es a)
  entered-takes b es (made v h) t = by (nat_eq (length es) entry_limit)
    where
      by : (c : Bool) → EntriesTakeCells (if c then beyond Length else made (put (name_codes b.name) v b.value es) h)
      by true = tt
      by false = t
  entered-takes b es (beyond what) t = tt

  entries-take : (e : Entries) (bs : List Binding) → EntriesTakeCells e → EntriesTakeCells (entries_from e bs)
  entries-take (made es h) [] t = t
  entries-take (made es h) (b ∷ bs) t =
      entries-take (entered b es (allot (object.Str b.name) h)) bs
      (entered-takes b es (allot (object.Str b.name) h) (allotted program (object.Str b.name) h t tt))
  entries-take (beyond what) [] t = tt
  entries-take (beyond what) (b ∷ bs) t = tt

  dict-takes : (vs : List (Option Value)) (e : Entries) → EntriesTakeCells e → ValuesTakeCells (dict_behind vs e)
  dict-takes vs (made es h) t = behind-takes vs (allot (object.Dict es) h) (allotted program (object.Dict es) h t tt)
  dict-takes vs (beyond what) t = tt

  star-takes : (c : Bool) (star : List Value) (vs : List (Option Value)) (h : List Object) → AllTakeCells program h → ValuesTakeCells (with_star c star vs h)
  star-takes c star vs h t = by c
    where
      by : (b : Bool) → ValuesTakeCells (if b then behind vs (allot (object.Tuple star) h) else made vs h)
      by true = behind-takes vs (allot (object.Tuple star) h) (allotted program (object.Tuple star) h t tt)
      by false = t

  stars-take : (c : Bool) (bs : List Binding) (v : Values) → ValuesTakeCells v → ValuesTakeCells (with_stars c bs v)
  stars-take c bs (made vs h) t = by c
    where
      by : (b : Bool) → ValuesTakeCells (if b then dict_behind vs (entries_from (made [] h) bs) else made vs h)
      by true = dict-takes vs (entries_from (made [] h) bs) (entries-take (made [] h) bs t)
      by false = t
  stars-take c bs (beyond what) t = tt

  pub values-take : (ps : Params) (ls : Locals) (h : List Object) → AllTakeCells program h → ValuesTakeCells (values_given ps ls h)
  values-take ps ls h t = stars-take ps.stars ls.stars (with_star ps.star ls.star ls.values h) (star-takes ps.star ls.star ls.values h t)
