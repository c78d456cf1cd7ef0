use Rattle.std.proofs.Common.{ℕ, ◌+◌, length, subst, arith}
use Rattle.pt_verify_depths.specs.PlaceTable.{AreSizesUpTo}
use Rattle.pt_verify_depths.specs.Refusals.{CutsOf}
use Rattle.pt_block_kinds.specs.Drawing.{Draws}
use Rattle.pt_kind_failures.proofs.Laid.{rows_land}
use Rattle.pt_kind_failures.proofs.Seen.{is_seen}
use Rattle.pt_refusals.specs.declared.failures.Failures.TheVariants as failures
use Rattle.pt_verify.proofs.ProbeLemmas.{its, its_tables, lead, told_of_its}
use Rattle.pt_verify.proofs.probe.BlockProbe.by_kinds.Goals as goal

pub returns : goal.returns
returns c = λ b t are d uncut.
    let probe = c.args.self.now in
    let code = probe.code.now in
    let block = probe.block.now in
    let i = its probe b t in
    let p = c.args.place.0 in
    let sizes = c.args.sizes.now in
    let its_are = subst (λ x. AreSizesUpTo x p sizes) t.same are in
    let its_draws = subst (λ x. Draws x p sizes c.args.kinds) t.same d in
    let hold = its_tables probe b t in
    let rows = lead code block t.view t.seen hold in
    let count = length block.instructions + 1 in
    let held = c.in_ok-held.ensures code t.view t.seen t.places count t.takers (omega arith) its_are rows in
    told_of_its probe b t p (record {
      failures = failures.Agree c.in_ok-told.told (record { lacks = c.in_ok-lacks.lacks; clash = c.leaves_clash-clash.result });
      held = c.in_ok-held.held;
      budget = c.held_up_to.new.budget;
    })
    (record {
      failures = record {
        agree = its_are.agree;
        uncut = subst (λ x. (n : ℕ) → CutsOf x p n → ⊥) t.same uncut;
        kinds = c.in_ok-told.ensures t.defaults t.view t.seen t.places its_are (rows_land i hold) its_draws;
        leaves = record {
          lacks = c.in_ok-lacks.ensures code block t.view t.seen t.places count t.takers (omega arith) its_are rows held;
          clash = c.leaves_clash-clash.ensures i t.places its_draws (is_seen code block t.view t.seen _ c.requires.long) its_are rows;
        };
      };
      held = λ agrees. held;
    })
