use Rattle.std.proofs.Common.{ℕ, sym, subst}
use Rattle.std.proofs.lemmas.Result.{IfOk-weaker}
use Rattle.pt_verify_depths.specs.PlaceTable.{AreSizesUpTo}
use Rattle.pt_verify_depths.specs.Refusals.{CutsOf}
use Rattle.pt_block_kinds.specs.Drawing.{Draws}
use Rattle.pt_kind_failures.proofs.Seen.{is_flow}
use Rattle.pt_refusals.specs.Told.{TellsLeast}
use Rattle.pt_refusals.specs.declared.failures.Failures.TheVariants as failures
use Rattle.pt_verify.proofs.ProbeLemmas.{cuts_disagree, its, told_of_its}
use Rattle.pt_verify.proofs.probe.BlockProbe.by_sizes.Goals as goal

pub least_cut-requires-clause-flow : goal.least_cut-requires-clause-flow
least_cut-requires-clause-flow c =
    let probe = c.args.self.now in
    is_flow probe.code.now probe.block.now probe.places.now c.args.sizes.now c.args.place.0 c.in_ok-kinds.kinds c.in_ok-kinds.ensures

pub by_kinds-requires-clause-flow : goal.by_kinds-requires-clause-flow
by_kinds-requires-clause-flow c =
    let probe = c.args.self.now in
    is_flow probe.code.now probe.block.now probe.places.now c.args.sizes.now c.args.place.0 c.in_ok-kinds.kinds c.in_ok-kinds.ensures

pub returns-in-None : goal.returns-in-None
returns-in-None c = IfOk-weaker c.by_kinds.result _ _
    (λ answer told b t are.
    let probe = c.args.self.now in
    let p = c.args.place.0 in
    let sizes = c.args.sizes.now in
    let kinds = c.in_ok-kinds.kinds in
    let i = its probe b t in
    let draws = c.in_ok-kinds.ensures t.view t.places in
    let its_are = subst (λ x. AreSizesUpTo x p sizes) t.same are in
    let uncut = subst (TellsLeast (CutsOf i p)) c.in-None.is (c.in_ok-least_cut.ensures probe.code.now t.view t.seen p its_are draws) in
    told b t are (subst (λ x. Draws x p sizes kinds) (sym t.same) draws) (subst (λ x. (n : ℕ) → CutsOf x p n → ⊥) (sym t.same) uncut))
    c.by_kinds.ensures

pub returns-in-Some : goal.returns-in-Some
returns-in-Some c = λ b t are.
    let probe = c.args.self.now in
    let p = c.args.place.0 in
    let sizes = c.args.sizes.now in
    let i = its probe b t in
    let its_are = subst (λ x. AreSizesUpTo x p sizes) t.same are in
    let cut = subst (TellsLeast (CutsOf i p)) c.in-Some.is
    (c.in_ok-least_cut.ensures probe.code.now t.view t.seen p its_are (c.in_ok-kinds.ensures t.view t.places)) in
    told_of_its probe b t p (record { failures = failures.Cut c.in-Some.row; held = c.no_leaves.result; budget = probe.budget }) (record {
      failures = record { agree = its_are.agree; cut = cut };
      held = λ agrees. absurd (cuts_disagree i p c.in-Some.row cut.holds agrees);
    })
