use Rattle.std.proofs.Common.{◌∙◌, ap, sym}
use Rattle.std.specs.Option.{option_map}
use Rattle.pt_base.specs.declared.numbers.Line.{Line}
use Rattle.sem_run.specs.run.Views.{line_or}
use Rattle.pt_closing.specs.pt_beginning.pt_machine_state.declared.blocks.BlockCode.{BlockCode}
use Rattle.pt_closing.specs.pt_beginning.pt_machine_state.Blocks.{block_at}
use Rattle.pt_closing.specs.pt_purposes.Seen.{block_of}
use Rattle.pt_advancing.proofs.lines.line_in.Goals as goal

pub returns-in-None : goal.returns-in-None
returns-in-None c =
    ap (λ (b : BlockCode). b.first_line.0) c.at.ensures
    ∙ ap (λ o. line_or (block_at c.args.blocks.now (block_of c.args.activation.now)).first_line.0 (option_map (λ (l : Line). l.0) o)) (sym c.in-None.is)
