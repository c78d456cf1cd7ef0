use Rattle.std.proofs.Common.{◌≡◌, ◌∙◌, ◌↔◌, ℕ, List, Bool, true, false, IsTrue, Option, None, Some, IsSome, set, slice_get, refl, sym, ap}
use Rattle.std.proofs.lemmas.List.{set-set}
use Rattle.pt_base.specs.declared.numbers.ObjId.{ObjId}
use Rattle.pt_heap.specs.declared.value.Value.{Value}
use Rattle.pt_heap.specs.declared.object.Object.{Object}
use Rattle.pt_heap.specs.Entries.{found, without}
use Rattle.pt_attrs.specs.Store.{names_in, with_names, without_name, Holds, TakesAt}
use Rattle.pt_attrs.proofs.StoreLemmas.{deleted-is, set-back, with-own, without-none}
use Rattle.pt_attrs.proofs.SoundLemmas.{take-sound}
use Rattle.pt_attrs.proofs.names.take_at.Goals as goal

takes : (h : List Object) (id : ObjId) (o : Object) (key : List ℕ) (new : List Object) (had : Bool) → slice_get h id.0 ≡ Some o → Holds h (slice_get h id.0) → new ≡ set h id.0 (with_names o (without key (names_in o))) → IsTrue had ↔ IsSome (found key (names_in o)) → TakesAt h new id key had
takes h id o key new had at holds is tells = by had (found key (names_in o)) refl tells
  where
    by : (had : Bool) (f : Option Value) → found key (names_in o) ≡ f → IsTrue had ↔ IsSome f → TakesAt h new id key had
    by true (Some v) e t = deleted-is h id o at holds key ∙ ap (without_name h id.0 key o (names_in o)) e ∙ ap Some (sym is)
    by true None e t = absurd (let no = t.0 refl in cc)
    by false (Some v) e t = absurd (let no : false ≡ true = t.1 refl in cc)
    by false None e t = (
      deleted-is h id o at holds key ∙ ap (without_name h id.0 key o (names_in o)) e,
      is ∙ ap (λ ns. set h id.0 (with_names o ns)) (without-none key (names_in o) e) ∙ ap (set h id.0) (with-own o) ∙ set-back h id.0 o at,
    )

pub returns-clause-names : goal.returns-clause-names
returns-clause-names c =
    let h = c.args.heap.now in
    let i = c.args.id.0 in
    let o = c.set-object.result in
    let twice = c.set.ensures.new ∙ ap (λ l. set l i c.take_from-had.new.object) c.set-object.ensures.new ∙ set-set h i _ c.take_from-had.new.object in
    takes h c.args.id o c.args.key.now c.set.new.self c.take_from-had.result c.set-object.ensures.old c.requires (twice ∙ ap (set h i) c.take_from-had.ensures.left) c.take_from-had.ensures.had

pub returns-clause-sound : goal.returns-clause-sound
returns-clause-sound c = take-sound c.args.heap.now c.args.id c.args.key.now c.set.new.self c.take_from-had.result (returns-clause-names c)
