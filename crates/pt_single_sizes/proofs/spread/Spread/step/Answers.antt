use Rattle.std.proofs.Common.{Some, None, sym, ap, ◌∙◌, arith}
use Rattle.std.specs.Prelude.{option_map}
use Rattle.pt_sizes.specs.Waiting.{levels_of}
use Rattle.pt_sizes.proofs.Tables.{entry_is}
use Rattle.sem_fits.specs.fits.Block.{links_of}
use Rattle.pt_single_sizes.proofs.Going.{behind_all, none_stands, has_size, not_on, on}
use Rattle.pt_single_sizes.proofs.spread.Spread.step.Goals as goal

pub returns-then-step-len : goal.returns-then-step-len
returns-then-step-len c = let s = c.args.self.now in
    behind_all (links_of c.args.code.now) c.args.places.now c.args.limit s.table.items s.work.items (levels_of s.waiting.levels) c.args.step c.requires
    (omega (arith, c.if-step-len.true, c.len.ensures))

pub returns-in_default : goal.returns-in_default
returns-in_default c = let s = c.args.self.now in
    none_stands (links_of c.args.code.now) c.args.places.now c.args.limit s.table.items s.work.items (levels_of s.waiting.levels) c.args.step c.requires
    (sym c.in_ok-place.ensures ∙ ap (option_map (λ p. p.now)) c.in_default.is)

pub returns-in-Some-index : goal.returns-in-Some-index
returns-in-Some-index c = let s = c.args.self.now in
    has_size (links_of c.args.code.now) c.args.places.now c.args.limit s.table.items s.work.items (levels_of s.waiting.levels) c.args.step c.requires
    c.in-Some-index.field-0 (entry_is s.table.items c.args.step.to c.index.result.now (Some c.in-Some-index.field-0) (omega (arith, c.if-step-len.false, c.len.ensures)) c.index.ensures c.in-Some-index.is)

pub returns-in_ok-expand-in-None : goal.returns-in_ok-expand-in-None
returns-in_ok-expand-in-None c = let s = c.args.self.now in
    on (links_of c.args.code.now) c.args.places.now c.args.limit s.table.items s.work.items (levels_of s.waiting.levels) c.args.step c.requires
    c.in-Some.place.now (sym c.in_ok-place.ensures ∙ ap (option_map (λ p. p.now)) c.in-Some.is)
    (entry_is s.table.items c.args.step.to c.index.result.now None (omega (arith, c.if-step-len.false, c.len.ensures)) c.index.ensures c.in-None.is)
    (omega (arith, c.if-step-limit.true)) c.expand.new.self.table.items c.expand.new.self.work.items (levels_of c.expand.new.self.waiting.levels)
    c.in_ok-expand-in-None.ensures

pub returns-else-step-limit : goal.returns-else-step-limit
returns-else-step-limit c = let s = c.args.self.now in
    not_on (links_of c.args.code.now) c.args.places.now c.args.limit s.table.items s.work.items (levels_of s.waiting.levels) c.args.step c.requires
    c.in-Some.place.now (sym c.in_ok-place.ensures ∙ ap (option_map (λ p. p.now)) c.in-Some.is)
    (entry_is s.table.items c.args.step.to c.index.result.now None (omega (arith, c.if-step-len.false, c.len.ensures)) c.index.ensures c.in-None.is)
    (omega (arith, c.if-step-limit.false))
