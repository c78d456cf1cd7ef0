use Rattle.std.proofs.Common.{◌≡◌, length, subst, arith}
use Rattle.std.proofs.lemmas.Result.{IfOk-weaker}
use Rattle.sem_fits.specs.fits.Block.{block_of}
use Rattle.pt_single_sizes.proofs.Seeing.{is_seen}
use Rattle.pt_cut_failures.specs.Cuts.{TellsShortBelow}
use Rattle.pt_cut_failures.specs.Graph.{DrawsCuts}
use Rattle.pt_cut_failures.proofs.Short.{tells_below}
use Rattle.pt_cut_failures.proofs.failures.first_differing.Goals as goal

pub short_row-requires : goal.short_row-requires
short_row-requires c = c.in_ok-flow.ensures.flow

pub returns : goal.returns
returns c = IfOk-weaker c.short_row.result _ _ (λ row t view v has apart shallow.
    let code = c.args.code.now in
    let block = c.args.block.now in
    let b = block_of code block view in
    let T = c.in_ok-sizes.sizes.items in
    let flow = c.in_ok-flow.flow in
    let draws = subst (λ xs. DrawsCuts b c.args.limit xs flow) c.deref.ensures.value (c.in_ok-flow.ensures.draws view has) in
    let long = c.in_ok-sizes.ensures.long in
    let seen = is_seen code block view v (length T) (omega (arith, long)) in
    tells_below b c.args.limit T flow draws seen (c.in_ok-sizes.ensures.exact view v has apart).whole (omega (arith, long)) c.args.rows shallow row
    (subst (λ n. TellsShortBelow flow n block.handlers c.args.rows row) (let e : c.len.result ≡ length T = omega (arith, c.len.ensures) in e) (subst (λ rs. TellsShortBelow flow c.len.result rs c.args.rows row) c.as_slice.ensures t))) c.short_row.ensures
