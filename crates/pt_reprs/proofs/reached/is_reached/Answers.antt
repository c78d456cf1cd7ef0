use Rattle.std.proofs.Common.{◌≡◌, ◌∙◌, ◌+◌, [], ◌∷◌, Some, None, length, nat_eq, slice_get, sym, refl, ap, subst, arith}
use Rattle.std.proofs.lemmas.List.{nil_from_length}
use Rattle.std.proofs.lemmas.Option.{slice_get_within}
use Rattle.indexmap.specs.IndexSet.{insert_key}
use Rattle.pt_reprs.specs.Marks.{at_place, Follows, MarksFirst}
use Rattle.pt_reprs.specs.Reached.{parts_of}
use Rattle.pt_reprs.proofs.ReachLemmas.{follows-more, follows-start, marks-below, none-reached, one-reached, past-end}
use Rattle.pt_reprs.proofs.reached.is_reached.Goals as goal

pub loop-at-init : goal.loop-at-init
loop-at-init c =
    let h = c.args.heap.now in
    let p = c.args.id.0 in
    let keys : c.insert.new.self.keys ≡ p ∷ [] =
    c.in_ok-insert.ensures.keys ∙ ap (λ ks. insert_key nat_eq ks p) (nil_from_length c.with_hasher-marks.result.keys c.with_hasher-marks.ensures.len) in
    record {
      follows = subst (λ ks. Follows h (at_place p) ks 0) (sym keys) (follows-start h p c.requires.plain c.requires.container);
      unique = c.insert.ensures.unique;
    }

pub returns-in-None : goal.returns-in-None
returns-in-None c =
    sym (none-reached c.args.heap.now (at_place c.args.id.0) c.loop-at.marks.keys c.loop-at.at c.loop-at.invariant.follows (past-end c.loop-at.marks.keys c.loop-at.at (sym c.marked.ensures ∙ c.in-None.is)))

pub returns-then-branch : goal.returns-then-branch
returns-then-branch c =
    sym (one-reached c.args.heap.now (at_place c.args.id.0) c.loop-at.marks.keys c.loop-at.at c.in-Some.place c.loop-at.invariant.follows (omega (arith, c.loop-at-test.true, c.len-at-end.ensures)) (sym c.marked.ensures ∙ c.in-Some.is)
    (sym c.in_ok-mark_parts.ensures.found ∙ c.if-branch.true))

pub loop-at-preserved : goal.loop-at-preserved
loop-at-preserved c =
    let h = c.args.heap.now in
    let v = at_place c.args.id.0 in
    let old = c.loop-at.marks.keys in
    let new = c.mark_parts.new.marks.keys in
    let m : MarksFirst h old new (parts_of h (at_place c.in-Some.place)) (length (parts_of h (at_place c.in-Some.place))) =
    c.in_ok-mark_parts.ensures.marks c.if-branch.false in
    record {
      follows = follows-more h v old new c.loop-at.at c.in-Some.place c.loop-at.invariant.follows (sym c.marked.ensures ∙ c.in-Some.is) m;
      unique = c.in_ok-mark_parts.ensures.unique c.loop-at.invariant.unique;
    }

pub returns : goal.returns
returns c =
    let f = c.loop-at.invariant.follows in
    let below = marks-below c.args.heap.now (at_place c.args.id.0) c.loop-at.marks.keys c.loop-at.at f c.loop-at.invariant.unique in
    sym (none-reached c.args.heap.now (at_place c.args.id.0) c.loop-at.marks.keys c.loop-at.at f (omega (arith, below, c.loop-at-test.false, c.len-at-end.ensures)))
