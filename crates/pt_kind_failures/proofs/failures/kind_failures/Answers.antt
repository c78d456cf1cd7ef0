use Rattle.sem_fits.specs.fits.Block.{block_of}
use Rattle.pt_kind_failures.proofs.Seen.{is_seen, has_sizes}
use Rattle.pt_kind_failures.proofs.failures.kind_failures.Goals as goal

pub returns : goal.returns
returns c = λ defaults view v has are laid d.
    let code = c.args.code.now in
    let block = c.args.block.now in
    let sizes = c.args.sizes.now in
    let b = block_of code block view in
    record {
      clash = c.in_ok-clash.ensures defaults view v has are d;
      strays = c.in_ok-strays.ensures block view has d (is_seen code block view v _ c.requires.long) (has_sizes b c.args.limit sizes are) laid;
    }
