-- The objects that `*NAME` and `**NAME` are given keep the heap sound.
use Rattle.std.proofs.Common.{◌≤◌, ℕ, Bool, true, false, List, [], ◌∷◌, ◌++◌, length, Option, Some, None, nat_eq, if◌then◌else◌, arith}
use Rattle.pt_base.specs.declared.what.What.TheVariants.{Length}
use Rattle.pt_heap.specs.Entries.{Entry, put}
use Rattle.pt_heap.specs.Limits.{entry_limit}
use Rattle.pt_heap.specs.Sound.{IsSound, IsWithin}
use Rattle.pt_heap.specs.declared.value.Value.{Value}
use Rattle.pt_heap.specs.declared.view.Binding.{Binding}
use Rattle.pt_heap.specs.declared.object.Object.{Object}
use Rattle.pt_heap.specs.declared.object.Object.TheVariants as object
use Rattle.pt_builtin_objects.specs.Start.{start_objects}
use Rattle.pt_dicts.specs.Keys.{name_codes}
use Rattle.pt_bind.specs.declared.arguments.Params.{Params}
use Rattle.pt_bind.specs.declared.arguments.Locals.{Locals}
use Rattle.pt_prims.specs.Laws.{AllWithin}
use Rattle.pt_prims.proofs.ContainerLemmas.{entries-below}
use Rattle.pt_prims.proofs.EntryLemmas.{put-within, AreWithin}
use Rattle.pt_prims.proofs.Places.{values-below, within-grows}
use Rattle.sem_run.specs.run.Host.{made, beyond}
use Rattle.pt_host.specs.World.{Allotted, allot}
use Rattle.pt_host.specs.Sound.{AllotsSound, CellsWithin}
use Rattle.pt_host.specs.Starred.{Values, Entries, behind, entered, entries_from, dict_behind, with_star, with_stars, values_given}
use Rattle.pt_host.proofs.ArgumentsSound.{bindings-grow, BindingsWithin}
use Rattle.pt_host.proofs.VariablesSound.{cells-both}
use Rattle.pt_host.proofs.Within.{allot-sound, cells-grow, text-fits}

-- what arguments are bound to, and what is made of that in a heap that is sound and no smaller
abbrev pub LocalsWithin : List Object → Locals → Type 0
LocalsWithin h ls = CellsWithin h ls.values × AllWithin h ls.star × BindingsWithin h ls.stars

abbrev pub ValuesSound : List Object → Values → Type 0
ValuesSound h (made vs k) = (length h ≤ length k) × IsSound start_objects k × CellsWithin k vs
ValuesSound h (beyond what) = Unit {0}

abbrev EntriesSound : List Object → Entries → Type 0
EntriesSound h (made es k) = (length h ≤ length k) × IsSound start_objects k × AreWithin k es
EntriesSound h (beyond what) = Unit {0}

entries-grow : (h k : List Object) (es : List Entry) → length h ≤ length k → AreWithin h es → AreWithin k es
entries-grow h k [] l w = tt
entries-grow h k (e ∷ es) l w = (within-grows h k e.first l w.0, within-grows h k e.value l w.1, entries-grow h k es l w.2)

behind-sound : (h k : List Object) (vs : List (Option Value)) (a : Allotted) → length h ≤ length k → CellsWithin k vs → AllotsSound k a → ValuesSound h (behind vs a)
behind-sound h k vs (made v g) l w s = (omega (arith, l, s.0), s.1, cells-both g vs (Some v ∷ []) (cells-grow k g vs s.0 w) (s.2, tt))
behind-sound h k vs (beyond what) l w s = tt

entered-sound : (h k : List Object) (b : Binding) (es : List Entry) (a : Allotted) → length h ≤ length k → AreWithin k es → IsWithin k b.value → AllotsSound k a
    → EntriesSound h (entered b es a)
entered-sound h k b es (made v g) l w u s = by (nat_eq (length es) entry_limit)
  where
    by : (c : Bool) → EntriesSound h (if c then beyond Length else made (put (name_codes b.name) v b.value es) g)
    by true = tt
    by false = (
      omega (arith, l, s.0),
      s.1,
      put-within g (name_codes b.name) v b.value es s.2 (within-grows k g b.value s.0 u) (entries-grow k g es s.0 w),
    )
entered-sound h k b es (beyond what) l w u s = tt

entries-sound : (h : List Object) (e : Entries) (bs : List Binding) → EntriesSound h e → BindingsWithin h bs → EntriesSound h (entries_from e bs)
entries-sound h (made es k) [] s w = s
entries-sound h (made es k) (b ∷ bs) s w =
    entries-sound h (entered b es (allot (object.Str b.name) k)) bs
    (entered-sound h k b es (allot (object.Str b.name) k) s.0 s.2 (within-grows h k b.value s.0 w.0) (allot-sound k (object.Str b.name) s.1 (text-fits k b.name)))
    w.1
entries-sound h (beyond what) [] s w = tt
entries-sound h (beyond what) (b ∷ bs) s w = tt

dict-sound : (h k : List Object) (vs : List (Option Value)) (e : Entries) → length h ≤ length k → CellsWithin k vs → EntriesSound k e → ValuesSound h (dict_behind vs e)
dict-sound h k vs (made es g) l w s =
    behind-sound h g vs (allot (object.Dict es) g) (omega (arith, l, s.0)) (cells-grow k g vs s.0 w)
    (allot-sound g (object.Dict es) s.1 (record { places = entries-below g es s.2; classes = tt }))
dict-sound h k vs (beyond what) l w s = tt

star-sound : (h : List Object) (c : Bool) (ls : Locals) → IsSound start_objects h → LocalsWithin h ls → ValuesSound h (with_star c ls.star ls.values h)
star-sound h c ls s w = by c
  where
    by : (b : Bool) → ValuesSound h (if b then behind ls.values (allot (object.Tuple ls.star) h) else made ls.values h)
    by true =
        behind-sound h h ls.values (allot (object.Tuple ls.star) h) (omega arith) w.0
        (allot-sound h (object.Tuple ls.star) s (record { places = values-below h ls.star w.1; classes = tt }))
    by false = (omega arith, s, w.0)

stars-sound : (h : List Object) (c : Bool) (bs : List Binding) (v : Values) → ValuesSound h v → BindingsWithin h bs → ValuesSound h (with_stars c bs v)
stars-sound h c bs (made vs k) s w = by c
  where
    by : (b : Bool) → ValuesSound h (if b then dict_behind vs (entries_from (made [] k) bs) else made vs k)
    by true =
        dict-sound h k vs (entries_from (made [] k) bs) s.0 s.2
        (entries-sound k (made [] k) bs (omega arith, s.1, tt) (bindings-grow h k bs s.0 w))
    by false = s
stars-sound h c bs (beyond what) s w = tt

pub values-sound : (h : List Object) (ps : Params) (ls : Locals) → IsSound start_objects h → LocalsWithin h ls → ValuesSound h (values_given ps ls h)
values-sound h ps ls s w = stars-sound h ps.stars ls.stars (with_star ps.star ls.star ls.values h) (star-sound h ps.star ls s w) w.2
