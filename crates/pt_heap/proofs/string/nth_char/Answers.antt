use Rattle.std.proofs.Common.{◌≡◌, ◌≤◌, ◌∙◌, Some, ap, sym, length, slice_get, arith}
use Rattle.std.proofs.lemmas.Iterator.{YieldsList-from_chars}
use Rattle.std.proofs.lemmas.Iterator.Consumers.{YieldsList-turn, YieldsList-end}
use Rattle.std.proofs.lemmas.List.{length_push}
use Rattle.std.proofs.lemmas.Option.{slice_get_past, slice_get-get_or}
use Rattle.std.specs.Str.{chars}
use Rattle.pt_heap.proofs.string.nth_char.Goals as goal

pub returns-then-left-eq0 : goal.returns-then-left-eq0
returns-then-left-eq0 c =
    let t = YieldsList-turn (YieldsList-from_chars c.args.text.now c.utf8.text cc) c.loop-c.yielded _ c.loop-c.yielded_by _ _ c.in-Some.c c.in-Some.is c.next.ensures.steps in
    let at : c.args.place ≡ length c.loop-c.yielded = omega (arith, c.loop-c.invariant, c.if-left-eq0.true) in
    ap Some t.1 ∙ sym (slice_get-get_or (chars c.args.text.now) (length c.loop-c.yielded) c.in-Some.c t.0) ∙ ap (slice_get (chars c.args.text.now)) (sym at)

pub loop-c-preserved : goal.loop-c-preserved
loop-c-preserved c =
    let n = length_push c.loop-c.yielded c.in-Some.c in
    omega (arith, n, c.if-left-eq0.false, c.loop-c.invariant)

pub returns : goal.returns
returns c =
    let t = YieldsList-end (YieldsList-from_chars c.args.text.now c.utf8.text cc) c.loop-c.yielded _ c.loop-c.yielded_by _ _ c.in-None.is c.next.ensures.steps in
    let past : length (chars c.args.text.now) ≤ c.args.place = omega (arith, t.1, c.loop-c.invariant) in
    sym (slice_get_past (chars c.args.text.now) c.args.place past)
