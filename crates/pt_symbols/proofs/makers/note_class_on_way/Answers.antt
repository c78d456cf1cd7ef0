use Rattle.std.proofs.Common.{◌∙◌, ◌-◌, ap, sym, Bool, List, ℕ}
use Rattle.std.specs.Prelude.{◌||◌, ◌==◌}
use Rattle.std.proofs.Math.Bool.{or-false}
use Rattle.sem_names.specs.Regions.{before, is_among}
use Rattle.pt_symbols.specs.RegionSets.{has_region}
use Rattle.pt_symbols.proofs.PlaceLemmas.{way_end, way_last, way_step}
use Rattle.pt_symbols.proofs.TableLemmas.{or_assoc}
use Rattle.pt_symbols.proofs.makers.note_class_on_way.Goals as goal

pub returns-then-at-class : goal.returns-then-at-class
returns-then-at-class c = λ r.
    let old = has_region c.loop-left.classes r in
    sym (or-false old)
    ∙ ap (λ (ps : List ℕ). old || is_among ps r)
    (sym (way_end c.loop-left.left c.args.places.now.regions c.args.class c.loop-left.at c.loop-left-test.true c.if-at-class.true))
    ∙ c.loop-left.invariant r

pub loop-left-preserved : goal.loop-left-preserved
loop-left-preserved c = λ r.
    let old = has_region c.loop-left.classes r in
    let rs = c.args.places.now.regions in
    let at = c.loop-left.at in
    let ps = before (c.loop-left.left - 1) rs c.args.class c.in-Some.around in
    ap (λ (b : Bool). b || is_among ps r) (c.in_ok-add.ensures r)
    ∙ or_assoc old (at == r) (is_among ps r)
    ∙ ap (λ (qs : List ℕ). old || is_among qs r)
    (sym (way_step c.loop-left.left rs c.args.class at c.in-Some.around c.loop-left-test.true c.if-at-class.false c.in-Some.ensures))
    ∙ c.loop-left.invariant r

pub returns-in-None : goal.returns-in-None
returns-in-None c = λ r.
    let old = has_region c.loop-left.classes r in
    let rs = c.args.places.now.regions in
    let at = c.loop-left.at in
    c.in_ok-add.ensures r
    ∙ ap (λ (b : Bool). old || b) (sym (or-false (at == r)))
    ∙ ap (λ (qs : List ℕ). old || is_among qs r)
    (sym (way_last c.loop-left.left rs c.args.class at c.loop-left-test.true c.if-at-class.false c.in-None.ensures))
    ∙ c.loop-left.invariant r
