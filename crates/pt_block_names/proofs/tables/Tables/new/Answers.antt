use Rattle.std.proofs.Common.{◌∙◌, ap, List, ℕ, Option}
use Rattle.std.specs.Prelude.{◌&&◌, slice_get}
use Rattle.std.specs.List.{list_any}
use Rattle.pt_symbols.specs.sem_names.declared.block_shape.BlockShape.{BlockShape}
use Rattle.pt_symbols.specs.sem_names.BlockNames.{has_class, is_class_of}
use Rattle.pt_symbols.specs.sem_names.Regions.{numbered}
use Rattle.pt_symbols.specs.sem_names.Script.{functions_among}
use Rattle.pt_block_names.proofs.tables.Tables.new.Goals as goal

pub returns : goal.returns
returns c =
    let g = c.args.places.now in
    let classes = λ (h : ℕ).
    c.in_ok-classes.ensures h ∙ ap (λ (bs : List BlockShape). has_class g.regions (functions_among bs g.blocks) h) c.as_slice-2.ensures in
    record {
      scopes = c.requires.scopes;
      nexts = λ h n. c.in_ok-nexts.ensures h n ∙ ap (λ (ns : List (Option ℕ)). numbered g.regions ns h n) c.as_slice.ensures;
      frees = c.in_ok-frees.ensures;
      captured = c.in_ok-captured.ensures;
      classes = classes;
      class_makers = λ h. c.in_ok-class_makers.ensures h ∙ (λ i. list_any (λ (q : ℕ). is_class_of g.regions h (slice_get g.regions q) && classes q i) g.blocks);
      mentions = c.in_ok-mentions.ensures;
    }
