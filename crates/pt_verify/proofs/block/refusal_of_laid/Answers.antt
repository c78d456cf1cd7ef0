use Rattle.std.proofs.Common.{◌≡◌, ◌+◌, length, subst, refl, arith, List}
use Rattle.std.proofs.lemmas.Result.{IfOk-weaker}
use Rattle.pt_ranges.specs.declared.handlers.Handler.{Handler}
use Rattle.sem_fits.specs.fits.Block.{block_of}
use Rattle.pt_takers.specs.Takers.{TellsTakers}
use Rattle.pt_verify.proofs.block.refusal_of_laid.Goals as goal

pub returns : goal.returns
returns c = IfOk-weaker c.refusal_by_probe.result _ _
    (λ told h defaults view v has hold.
    let code = c.args.code.now in
    let block = c.args.block.now in
    let count : c.in-Some.count ≡ length block.instructions + 1 = omega (arith, c.in-Some.ensures, c.len.ensures) in
    h (block_of code block view) (record {
      view = view;
      seen = v;
      same = refl;
      places = has;
      defaults = defaults;
      takers = subst (λ n. TellsTakers block.handlers n c.in_ok-takers.takers) count
          (subst (λ (rows : List Handler). TellsTakers rows c.in-Some.count c.in_ok-takers.takers) c.as_slice.ensures c.in_ok-takers.ensures);
      tables = hold;
      sizes = c.in_ok-sizes.ensures view v;
    }))
    c.refusal_by_probe.ensures
