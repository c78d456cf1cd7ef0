use Rattle.std.proofs.Common.{◌≡◌, ◌∙◌, ◌-◌, ◌≤◌, None, ap, sym, subst, length, arith}
use Rattle.std.specs.Str.{bytes_eq}
use Rattle.std.specs.Map.{lookup}
use Rattle.pt_heap.specs.Entries.{found, without}
use Rattle.pt_heap.specs.Holes.{entries_of, AreHoles}
use Rattle.pt_heap.specs.Limits.{entry_limit}
use Rattle.pt_heap.proofs.HoleLemmas.{value-from, none-from, joined-some, length-without, without-missing, AreHoles-write, entries_of-without}
use Rattle.pt_heap.proofs.dict.Dict.remove.Goals as goal

pub overflow_sub-self : goal.overflow_sub-self
overflow_sub-self c =
    let value = value-from c.args.key.now c.self.inside.items.entries c.in-Some.item c.self.invariant.3 c.in-Some.ensures in
    omega (arith, c.self.invariant.0, length-without c.args.key.now (entries_of c.self.inside.items.entries) c.in-Some.item.value value)

pub settle-self-inside-requires : goal.settle-self-inside-requires
settle-self-inside-requires c =
    let there = joined-some (lookup (bytes_eq c.args.key.now) c.self.inside.items.entries) c.in-Some.item c.in-Some.ensures in
    subst (AreHoles c.self.inside.start) (sym c.write.ensures.entries) (AreHoles-write c.args.key.now c.in-Some.item c.self.inside.start None c.self.inside.items.entries there c.self.invariant.2)

pub invariant_of-self : goal.invariant_of-self
invariant_of-self c =
    let es = c.self.inside.items.entries in
    let value = value-from c.args.key.now es c.in-Some.item c.self.invariant.3 c.in-Some.ensures in
    let there = joined-some (lookup (bytes_eq c.args.key.now) es) c.in-Some.item c.in-Some.ensures in
    let left : entries_of c.settle-self-inside.new.items.entries ≡ without c.args.key.now (entries_of es) =
    c.settle-self-inside.ensures.entries ∙ ap entries_of c.write.ensures.entries ∙ entries_of-without c.args.key.now c.in-Some.item es there in
    let less = length-without c.args.key.now (entries_of es) c.in-Some.item.value value in
    let count : c.self.inside.count - 1 ≡ length (without c.args.key.now (entries_of es)) = omega (arith, c.self.invariant.0, less) in
    let within : c.self.inside.count - 1 ≤ entry_limit = omega (arith, c.self.invariant.1) in
    (count ∙ ap length (sym left), within, c.settle-self-inside.ensures.holes, c.settle-self-inside.ensures.unique (c.write.ensures.unique c.self.invariant.3))

pub returns-in-Some-clause-value : goal.returns-in-Some-clause-value
returns-in-Some-clause-value c =
    sym (value-from c.args.key.now c.self.inside.items.entries c.in-Some.item c.self.invariant.3 c.in-Some.ensures) ∙ ap (found c.args.key.now) c.self.view_is

pub returns-in-Some-clause-entries : goal.returns-in-Some-clause-entries
returns-in-Some-clause-entries c =
    let es = c.self.inside.items.entries in
    let there = joined-some (lookup (bytes_eq c.args.key.now) es) c.in-Some.item c.in-Some.ensures in
    c.settle-self-inside.ensures.entries ∙ ap entries_of c.write.ensures.entries ∙ entries_of-without c.args.key.now c.in-Some.item es there ∙ ap (without c.args.key.now) c.self.view_is

pub returns-in-None-clause-value : goal.returns-in-None-clause-value
returns-in-None-clause-value c =
    sym (none-from c.args.key.now c.self.inside.items.entries c.self.invariant.3 c.in-None.ensures) ∙ ap (found c.args.key.now) c.self.view_is

pub returns-in-None-clause-entries : goal.returns-in-None-clause-entries
returns-in-None-clause-entries c =
    let none = sym (ap (found c.args.key.now) c.self.view_is) ∙ none-from c.args.key.now c.self.inside.items.entries c.self.invariant.3 c.in-None.ensures in
    sym (without-missing c.args.key.now c.args.self.now none)
