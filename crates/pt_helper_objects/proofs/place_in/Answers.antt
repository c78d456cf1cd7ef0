use Rattle.std.proofs.Common.{◌∙◌, sym}
use Rattle.std.specs.Str.{bytes_eq}
use Rattle.pt_helper_objects.proofs.TableLemmas.{from_start, found_at, none_left}
use Rattle.pt_helper_objects.proofs.place_in.Goals as goal

pub returns-then-eq-clause-place : goal.returns-then-eq-clause-place
returns-then-eq-clause-place c =
    sym (from_start (bytes_eq c.args.name.now) c.args.rows.now
    ∙ (c.loop-at.invariant
    ∙ found_at (bytes_eq c.args.name.now) c.args.rows.now c.loop-at.at _ c.loop-at-test.true (sym c.eq.ensures ∙ c.if-eq.true)))

pub returns-clause-place : goal.returns-clause-place
returns-clause-place c =
    sym (from_start (bytes_eq c.args.name.now) c.args.rows.now
    ∙ (c.loop-at.invariant
    ∙ none_left (bytes_eq c.args.name.now) c.args.rows.now c.loop-at.at c.loop-at-test.false))
