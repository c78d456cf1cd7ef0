use Rattle.std.proofs.Common.{◌++◌, List, sym, subst}
use Rattle.pt_heap.specs.Entries.{Entry, entry}
use Rattle.pt_dicts.specs.Adding.{chosen}
use Rattle.pt_dicts.proofs.SetLemmas.{IsAdding, passed, taken}
use Rattle.pt_dicts.proofs.sets.add_chosen.Goals as goal

pub loop-entry-preserved-in-Continue-1 : goal.loop-entry-preserved-in-Continue-1
loop-entry-preserved-in-Continue-1 c =
    let e = entry c.in-Some.entry.key.now c.in-Some.entry.first c.in-Some.entry.value in
    let total = c.args.to.now ++ chosen c.args.choice c.args.other.now c.args.from.now in
    let inv = subst (λ (l : List Entry). IsAdding c.args.choice c.args.other.now total c.loop-entry.to l) c.in-Some.ensures.first c.loop-entry.invariant in
    taken c.args.choice c.args.other.now total c.loop-entry.to e c.next.new.self inv (sym c.if-is_chosen.ensures) c.add_item.new.to c.in_ok-add_item.ensures

pub loop-entry-preserved : goal.loop-entry-preserved
loop-entry-preserved c =
    let e = entry c.in-Some.entry.key.now c.in-Some.entry.first c.in-Some.entry.value in
    let total = c.args.to.now ++ chosen c.args.choice c.args.other.now c.args.from.now in
    let inv = subst (λ (l : List Entry). IsAdding c.args.choice c.args.other.now total c.loop-entry.to l) c.in-Some.ensures.first c.loop-entry.invariant in
    passed c.args.choice c.args.other.now total c.loop-entry.to e c.next.new.self inv (sym c.if-is_chosen.ensures)
