use Rattle.std.proofs.Common.{◌≡◌, None, Some, map, false, ap, ◌∙◌, get_or}
use Rattle.std.specs.Prelude.{option_map, slice_get}
use Rattle.std.proofs.lemmas.Option.{slice_get-get_or}
use Rattle.pt_ranges.specs.declared.lines.ActMark.{ActMark}
use Rattle.sem_fits.specs.fits.Tables.{in_order}
use Rattle.pt_block_tables.proofs.FirstLemmas.{next_is, before_next, least_at, none_more, none_in_order}
use Rattle.pt_block_tables.proofs.rows.bad_mark.Goals as goal

abbrev none_there : ActMark
none_there = record { pc = record { 0 = 0 }; act = record { 0 = 0 }; line = record { 0 = 0 }; again = false }

pub returns-then-not-is_next : goal.returns-then-not-is_next
returns-then-not-is_next c = λ b has.
    let i = c.loop-number.number in let xs = c.args.marks.now in
    let e : slice_get xs i ≡ Some (get_or xs i none_there) = slice_get-get_or xs i none_there c.loop-number-test.true in
    least_at (in_order b None (map (λ m. m.pc.0) xs)) i (c.loop-number.invariant.none b has)
    (next_is b (λ m. m.pc.0) xs i (get_or xs i none_there) (option_map (λ p. p.0) c.loop-number.before) c.is_next.result e c.loop-number.invariant.last (c.is_next.ensures b has)
    ∙ ap (λ r. Some r) c.if-not-is_next.true)

pub loop-number-preserved : goal.loop-number-preserved
loop-number-preserved c =
    let i = c.loop-number.number in let xs = c.args.marks.now in
    let e : slice_get xs i ≡ Some (get_or xs i none_there) = slice_get-get_or xs i none_there c.loop-number-test.true in
    record {
      last = before_next (λ m. m.pc.0) xs i (get_or xs i none_there) e;
      none = λ b has. none_more (in_order b None (map (λ m. m.pc.0) xs)) i (c.loop-number.invariant.none b has)
          (next_is b (λ m. m.pc.0) xs i (get_or xs i none_there) (option_map (λ p. p.0) c.loop-number.before) c.is_next.result e c.loop-number.invariant.last (c.is_next.ensures b has)
          ∙ ap (λ r. Some r) c.if-not-is_next.false);
    }

pub returns : goal.returns
returns c = λ b has. none_in_order b (λ m. m.pc.0) c.args.marks.now c.loop-number.number (c.loop-number.invariant.none b has) c.loop-number-test.false
