use Rattle.std.proofs.Common.{◌∙◌, ◌-◌, ap, sym, false, List, ℕ, if◌then◌else◌}
use Rattle.std.specs.Prelude.{◌==◌}
use Rattle.sem_names.specs.BlockNames.{with_name}
use Rattle.sem_names.specs.Regions.{before, is_among}
use Rattle.pt_symbols.specs.Tables.{names_in}
use Rattle.pt_symbols.proofs.PlaceLemmas.{way_end, way_last, way_step}
use Rattle.pt_symbols.proofs.TableLemmas.{noted_choice}
use Rattle.pt_symbols.proofs.makers.note_on_way.Goals as goal

pub returns-then-at-owner : goal.returns-then-at-owner
returns-then-at-owner c = λ r.
    let ys = names_in c.loop-left.frees r in
    let x = c.args.name.now in
    ap (λ (ps : List ℕ). if is_among ps r then with_name ys x else ys)
    (sym (way_end c.loop-left.left c.args.places.now.regions c.args.owner c.loop-left.at c.loop-left-test.true c.if-at-owner.true))
    ∙ c.loop-left.invariant r

pub loop-left-preserved : goal.loop-left-preserved
loop-left-preserved c = λ r.
    let ys = names_in c.loop-left.frees r in
    let x = c.args.name.now in
    let rs = c.args.places.now.regions in
    let at = c.loop-left.at in
    let ps = before (c.loop-left.left - 1) rs c.args.owner c.in-Some.around in
    ap (λ (zs : List (List ℕ)). if is_among ps r then with_name zs x else zs) (c.in_ok-add.ensures r)
    ∙ noted_choice (at == r) (is_among ps r) ys x
    ∙ ap (λ (qs : List ℕ). if is_among qs r then with_name ys x else ys)
    (sym (way_step c.loop-left.left rs c.args.owner at c.in-Some.around c.loop-left-test.true c.if-at-owner.false c.in-Some.ensures))
    ∙ c.loop-left.invariant r

pub returns-in-None : goal.returns-in-None
returns-in-None c = λ r.
    let ys = names_in c.loop-left.frees r in
    let x = c.args.name.now in
    let rs = c.args.places.now.regions in
    let at = c.loop-left.at in
    c.in_ok-add.ensures r
    ∙ noted_choice (at == r) false ys x
    ∙ ap (λ (qs : List ℕ). if is_among qs r then with_name ys x else ys)
    (sym (way_last c.loop-left.left rs c.args.owner at c.loop-left-test.true c.if-at-owner.false c.in-None.ensures))
    ∙ c.loop-left.invariant r
