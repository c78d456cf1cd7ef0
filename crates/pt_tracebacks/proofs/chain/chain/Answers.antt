use Rattle.std.proofs.Common.{arith, ◌≡◌, ◌∙◌, ◌<◌, List, Bool, true, false, Some, None, length, map, get_or, refl, sym, ap}
use Rattle.std.specs.Option.{option_copied}
use Rattle.std.proofs.lemmas.List.{length-set, map_push}
use Rattle.pt_tracebacks.specs.Chain.{Link, earlier}
use Rattle.pt_tracebacks.proofs.ChainLemmas.{at_earlier, at_earliest, at_held, at_last, at_none, error-within, read_flag}
use Rattle.pt_tracebacks.proofs.chain.chain.Goals as goal

pub returns-in_default : goal.returns-in_default
returns-in_default c =
    let inv = c.loop-step.invariant in
    at_none c.args.heap.now c.args.first (map (λ k. (k.error.now, k.role)) c.loop-step.links.items) c.loop-step.held.items c.loop-step._step
    c.loop-step.at c.loop-step.role inv.so_far (omega (arith, c.loop-step-test.true, c.len-step-end.ensures))
    (sym c.error_at.ensures ∙ ap option_copied c.in_default.is)

pub index-requires : goal.index-requires
index-requires c =
    let within = error-within c.args.heap.now c.loop-step.at.0 c.in-Some.error.now (sym c.error_at.ensures ∙ ap option_copied c.in-Some.is) in
    omega (arith, within, c.loop-step.invariant.len)

pub index_mut-requires : goal.index_mut-requires
index_mut-requires c =
    let within = error-within c.args.heap.now c.loop-step.at.0 c.in-Some.error.now (sym c.error_at.ensures ∙ ap option_copied c.in-Some.is) in
    omega (arith, within, c.loop-step.invariant.len)

pub returns-then-index : goal.returns-then-index
returns-then-index c =
    let inv = c.loop-step.invariant in
    let is = sym c.error_at.ensures ∙ ap option_copied c.in-Some.is in
    let within = error-within c.args.heap.now c.loop-step.at.0 c.in-Some.error.now is in
    let room : c.loop-step.at.0 < length c.loop-step.held.items = omega (arith, within, inv.len) in
    at_held c.args.heap.now c.args.first (map (λ k. (k.error.now, k.role)) c.loop-step.links.items) c.loop-step.held.items c.loop-step._step
    c.loop-step.at c.loop-step.role inv.so_far (omega (arith, c.loop-step-test.true, c.len-step-end.ensures)) c.in-Some.error.now is
    (read_flag c.loop-step.held.items c.loop-step.at.0 c.index.result.now true room c.index.ensures c.if-index.true)

pub returns-in_default-earlier : goal.returns-in_default-earlier
returns-in_default-earlier c =
    let inv = c.loop-step.invariant in
    let is = sym c.error_at.ensures ∙ ap option_copied c.in-Some.is in
    let within = error-within c.args.heap.now c.loop-step.at.0 c.in-Some.error.now is in
    let room : c.loop-step.at.0 < length c.loop-step.held.items = omega (arith, within, inv.len) in
    ap (map (λ k. (k.error.now, k.role))) c.in_ok-push.ensures.items ∙ map_push (λ k. (k.error.now, k.role)) c.loop-step.links.items _
    ∙ at_earliest c.args.heap.now c.args.first (map (λ k. (k.error.now, k.role)) c.loop-step.links.items) c.loop-step.held.items c.loop-step._step
    c.loop-step.at c.loop-step.role inv.so_far (omega (arith, c.loop-step-test.true, c.len-step-end.ensures)) c.in-Some.error.now is
    (read_flag c.loop-step.held.items c.loop-step.at.0 c.index.result.now false room c.index.ensures c.if-index.false)
    (sym c.earlier.ensures ∙ c.in_default-earlier.is)

pub loop-step-preserved : goal.loop-step-preserved
loop-step-preserved c =
    let inv = c.loop-step.invariant in
    let is = sym c.error_at.ensures ∙ ap option_copied c.in-Some.is in
    let within = error-within c.args.heap.now c.loop-step.at.0 c.in-Some.error.now is in
    let room : c.loop-step.at.0 < length c.loop-step.held.items = omega (arith, within, inv.len) in
    record {
      so_far =
          at_earlier c.args.heap.now c.args.first (map (λ k. (k.error.now, k.role)) c.loop-step.links.items) c.loop-step.held.items c.loop-step._step
          c.loop-step.at c.loop-step.role inv.so_far (omega (arith, c.loop-step-test.true, c.len-step-end.ensures)) c.in-Some.error.now is
          (read_flag c.loop-step.held.items c.loop-step.at.0 c.index.result.now false room c.index.ensures c.if-index.false)
          c.in-Some-earlier.id c.in-Some-earlier.of_id _ _ (sym c.earlier.ensures ∙ c.in-Some-earlier.is) inv.len refl
          (ap (map (λ k. (k.error.now, k.role))) c.in_ok-push.ensures.items ∙ map_push (λ k. (k.error.now, k.role)) c.loop-step.links.items _);
      len = length-set c.loop-step.held.items c.loop-step.at.0 true ∙ inv.len;
    }

pub returns : goal.returns
returns c =
    at_last c.args.heap.now c.args.first (map (λ k. (k.error.now, k.role)) c.loop-step.links.items) c.loop-step.held.items c.loop-step._step
    c.loop-step.at c.loop-step.role c.loop-step.invariant.so_far (omega (arith, c.loop-step-test.false, c.len-step-end.ensures))
