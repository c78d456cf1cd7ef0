use Rattle.std.proofs.Common.{ℕ, List, Option, subst}
use Rattle.std.proofs.lemmas.Result.{IfOk-weaker}
use Rattle.sem_fits.specs.fits.Block.{block_of, links_of}
use Rattle.pt_kind_failures.specs.Lacking.{AnyLacks}
use Rattle.pt_kind_failures.proofs.Seen.{is_seen, has_sizes}
use Rattle.pt_kind_failures.proofs.Telling.{met, none_met, lacking, standing, found, not_found}
use Rattle.pt_kind_failures.proofs.failures.clashes.Goals as goal

pub returns-then-meets : goal.returns-then-meets
returns-then-meets c = λ defaults view v has are d.
    let code = c.args.code.now in
    let block = c.args.block.now in
    let sizes = c.args.sizes.now in
    let b = block_of code block view in
    let seen = is_seen code block view v _ c.requires.long in
    let fits = has_sizes b c.args.limit sizes are in
    met code block view c.args.places.now has c.args.limit sizes c.args.kinds d seen fits c.meets.result (c.meets.ensures b c.args.limit d seen fits) c.if-meets.true

pub returns-then-branch : goal.returns-then-branch
returns-then-branch c = λ defaults view v has are d.
    let code = c.args.code.now in
    let block = c.args.block.now in
    let sizes = c.args.sizes.now in
    let places = c.args.places.now in
    let p = c.args.limit in
    let b = block_of code block view in
    let seen = is_seen code block view v _ c.requires.long in
    let fits = has_sizes b p sizes are in
    let none = none_met code block view places has p sizes c.args.kinds d seen fits c.meets.result (c.meets.ensures b p d seen fits) c.if-meets.false in
    let any = λ (lists : List (Option ℕ)). AnyLacks c.args.kinds.flow.forest (links_of code) lists places p in
    lacking code block view places has p sizes c.args.kinds d seen fits none
    (subst any c.deref.ensures.value (found (any c.deref.result.now) c.in_ok-any_lacks.field-0 c.in_ok-any_lacks.ensures c.if-branch.true))

pub returns : goal.returns
returns c = IfOk-weaker c.misplaced.result _ _ (λ t told defaults view v has are d.
    let code = c.args.code.now in
    let block = c.args.block.now in
    let sizes = c.args.sizes.now in
    let places = c.args.places.now in
    let p = c.args.limit in
    let b = block_of code block view in
    let seen = is_seen code block view v _ c.requires.long in
    let fits = has_sizes b p sizes are in
    let none = none_met code block view places has p sizes c.args.kinds d seen fits c.meets.result (c.meets.ensures b p d seen fits) c.if-meets.false in
    let any = λ (lists : List (Option ℕ)). AnyLacks c.args.kinds.flow.forest (links_of code) lists places p in
    standing code block view places has p sizes c.args.kinds d seen fits none
    (subst (λ ls. any ls → ⊥) c.deref.ensures.value (not_found (any c.deref.result.now) c.in_ok-any_lacks.field-0 c.in_ok-any_lacks.ensures c.if-branch.false))
    t (told defaults view has are)) c.misplaced.ensures
