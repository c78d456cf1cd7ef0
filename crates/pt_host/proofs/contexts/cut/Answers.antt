use Rattle.std.proofs.Common.{◌≡◌, ◌∙◌, ◌<◌, ◌≤◌, List, length, slice_get, Some, None, sym, ap, arith}
use Rattle.pt_heap.specs.declared.object.Object.{Object}
use Rattle.pt_host.specs.Errors.{context_in, with_context}
use Rattle.pt_host.proofs.ContextLemmas.{cut_ended, cut_further, cut_none, cut_there}
use Rattle.pt_host.proofs.contexts.cut.Goals as goal

pub returns-in_default : goal.returns-in_default
returns-in_default c =
    let h : List Object = c.args.heap.now in
    let inv = c.loop-step.invariant in
    let more : c.loop-step._step < length h = omega (arith, c.loop-step-test.true, c.len-step-end.ensures) in
    let is : context_in (slice_get h c.loop-step.at.0) ≡ None = ap (λ k. context_in (slice_get k c.loop-step.at.0)) (sym inv.heap) ∙ sym c.context_at.ensures ∙ c.in_default.is in
    inv.heap ∙ sym (sym inv.cut ∙ cut_ended h (length h) c.loop-step._step c.args.back c.loop-step.at more is)

pub returns-then-context-back : goal.returns-then-context-back
returns-then-context-back c =
    let h : List Object = c.args.heap.now in
    let inv = c.loop-step.invariant in
    let at = c.loop-step.at in
    let more : c.loop-step._step < length h = omega (arith, c.loop-step-test.true, c.len-step-end.ensures) in
    let is : context_in (slice_get h at.0) ≡ Some c.in-Some.context = ap (λ k. context_in (slice_get k at.0)) (sym inv.heap) ∙ sym c.context_at.ensures ∙ c.in-Some.is in
    c.set_context.ensures ∙ ap (λ k. with_context None at (slice_get k at.0) k) inv.heap
    ∙ sym (sym inv.cut ∙ cut_there h (length h) c.loop-step._step c.args.back at more c.in-Some.context c.if-context-back.true is)

pub loop-step-preserved : goal.loop-step-preserved
loop-step-preserved c =
    let h : List Object = c.args.heap.now in
    let inv = c.loop-step.invariant in
    let at = c.loop-step.at in
    let more : c.loop-step._step < length h = omega (arith, c.loop-step-test.true, c.len-step-end.ensures) in
    let is : context_in (slice_get h at.0) ≡ Some c.in-Some.context = ap (λ k. context_in (slice_get k at.0)) (sym inv.heap) ∙ sym c.context_at.ensures ∙ c.in-Some.is in
    record {
      heap = inv.heap;
      cut = sym (cut_further h (length h) c.loop-step._step c.args.back at more c.in-Some.context c.if-context-back.false is) ∙ inv.cut;
    }

pub returns : goal.returns
returns c =
    let h : List Object = c.args.heap.now in
    let inv = c.loop-step.invariant in
    let past : length h ≤ c.loop-step._step = omega (arith, c.loop-step-test.false, c.len-step-end.ensures) in
    inv.heap ∙ sym (sym inv.cut ∙ cut_none h (length h) c.loop-step._step c.args.back c.loop-step.at past)
