use Rattle.std.proofs.Common.{◌≡◌, ◌∙◌, Some, Err, ap, sym, subst, length}
use Rattle.std.specs.Str.{bytes_eq}
use Rattle.std.specs.Map.{lookup}
use Rattle.pt_heap.specs.declared.dict.DictErr.TheVariants.{Length}
use Rattle.pt_heap.specs.Entries.{found, put}
use Rattle.pt_heap.specs.Holes.{entries_of, AreHoles}
use Rattle.pt_heap.proofs.HoleLemmas.{value-from, none-from, joined-some, length-put, put-new, AreHoles-write, entries_of-write}
use Rattle.pt_heap.proofs.dict.Dict.insert.Goals as goal

pub invariant_of-self : goal.invariant_of-self
invariant_of-self c =
    let es = c.self.inside.items.entries in
    let item = c.in-Some.item in
    let value = value-from c.args.key es item c.self.invariant.3 c.in-Some.ensures in
    let there = joined-some (lookup (bytes_eq c.args.key) es) item c.in-Some.ensures in
    let put_in : entries_of c.write.new.items.entries ≡ put c.args.key c.args.first c.args.value (entries_of es) =
    ap entries_of c.write.ensures.entries ∙ entries_of-write c.args.key item c.args.first c.args.value es there in
    let same = length-put c.args.key c.args.first c.args.value (entries_of es) item.value value in
    let holes = subst (AreHoles c.self.inside.start) (sym c.write.ensures.entries) (AreHoles-write c.args.key item c.self.inside.start _ es there c.self.invariant.2) in
    (c.self.invariant.0 ∙ sym (ap length put_in ∙ same), c.self.invariant.1, holes, c.write.ensures.unique c.self.invariant.3)

pub append-requires : goal.append-requires
append-requires c = sym (ap (found c.args.key) c.self.view_is) ∙ none-from c.args.key c.self.inside.items.entries c.self.invariant.3 c.in-None.ensures

pub returns-in-Some-clause-old : goal.returns-in-Some-clause-old
returns-in-Some-clause-old c = sym (value-from c.args.key c.self.inside.items.entries c.in-Some.item c.self.invariant.3 c.in-Some.ensures) ∙ ap (found c.args.key) c.self.view_is

pub returns-in-Some-clause-ok : goal.returns-in-Some-clause-ok
returns-in-Some-clause-ok c =
    let es = c.self.inside.items.entries in
    let there = joined-some (lookup (bytes_eq c.args.key) es) c.in-Some.item c.in-Some.ensures in
    ap entries_of c.write.ensures.entries ∙ entries_of-write c.args.key c.in-Some.item c.args.first c.args.value es there ∙ ap (put c.args.key c.args.first c.args.value) c.self.view_is

pub returns-in-Some-clause-full : goal.returns-in-Some-clause-full
returns-in-Some-clause-full c =
    let value : found c.args.key c.args.self.now ≡ Some c.in-Some.item.value =
    sym (ap (found c.args.key) c.self.view_is) ∙ value-from c.args.key c.self.inside.items.entries c.in-Some.item c.self.invariant.3 c.in-Some.ensures in
    (λ e. absurd cc, λ h. let none = h.0 in absurd cc)

pub returns-in-Ok-clause-old : goal.returns-in-Ok-clause-old
returns-in-Ok-clause-old c = sym (sym (ap (found c.args.key) c.self.view_is) ∙ none-from c.args.key c.self.inside.items.entries c.self.invariant.3 c.in-None.ensures)

pub returns-in-Ok-clause-ok : goal.returns-in-Ok-clause-ok
returns-in-Ok-clause-ok c =
    let none = sym (ap (found c.args.key) c.self.view_is) ∙ none-from c.args.key c.self.inside.items.entries c.self.invariant.3 c.in-None.ensures in
    c.in-Ok.ensures.ok ∙ sym (put-new c.args.key c.args.first c.args.value c.args.self.now none)

pub returns-in-Err-clause-full : goal.returns-in-Err-clause-full
returns-in-Err-clause-full c =
    let none = sym (ap (found c.args.key) c.self.view_is) ∙ none-from c.args.key c.self.inside.items.entries c.self.invariant.3 c.in-None.ensures in (
      λ e. let same : c.in-Err.error ≡ Length = cc in (none, c.in-Err.ensures.full.0 (ap Err same)),
      λ h. let full = c.in-Err.ensures.full.1 h.1 in let same : c.in-Err.error ≡ Length = cc in ap Err same,
    )
