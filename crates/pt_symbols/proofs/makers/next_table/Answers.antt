use Rattle.std.proofs.Common.{◌≡◌, ◌∙◌, ◌-◌, get_or, ap, sym, arith, drop, suc, ℕ, Option}
use Rattle.std.specs.Prelude.{slice_get, None}
use Rattle.sem_names.specs.Regions.{numbered_behind}
use Rattle.pt_symbols.specs.Tables.{next_too}
use Rattle.pt_symbols.proofs.TableLemmas.{next_last, next_step, read_at}
use Rattle.pt_symbols.proofs.makers.next_table.Goals as goal

pub loop-at-init : goal.loop-at-init
loop-at-init c = (omega arith, λ h n. c.new-table.ensures h n ∙ next_last _ _ c.args.nexts.now h n)

pub loop-at-preserved : goal.loop-at-preserved
loop-at-preserved c = (
  omega arith,
  λ h n.
      let rs = c.args.places.now.regions in
      let ms = c.args.nexts.now in
      let i = c.loop-at.at - 1 in
      let m : Option ℕ = get_or ms i None in
      let more : suc i ≡ c.loop-at.at = omega arith in
      c.in_ok-note_next.ensures h n
      ∙ ap (λ (o : Option ℕ). next_too (slice_get rs i) m i h n o)
      (c.loop-at.invariant.1 h n ∙ ap (λ (k : ℕ). numbered_behind k (drop k rs) (drop k ms) h n) (sym more))
      ∙ next_step i i rs ms m h n (read_at ms i None (omega arith)),
)
