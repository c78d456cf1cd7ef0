use Rattle.std.proofs.Common.{◌≡◌, ◌<◌, ◌∷◌, ◌++◌, ◌+◌, [], length, take, ap, refl, sym, ◌∙◌, arith, if◌then◌else◌, ℕ}
use Rattle.std.specs.Prelude.{◌==◌, slice_get, Some}
use Rattle.std.proofs.lemmas.Grind.{take_at_read}
use Rattle.std.proofs.lemmas.Option.{slice_get_read}
use Rattle.pt_scopes.specs.Scope.{home_of}
use Rattle.pt_scopes.specs.declared.region.Mention.{Mention}
use Rattle.pt_symbols.specs.Tables.{mentions_in}
use Rattle.pt_symbols.proofs.TableLemmas.{mention_more}
use Rattle.pt_symbols.proofs.makers.mention_table.Goals as goal

pub loop-place-preserved : goal.loop-place-preserved
loop-place-preserved c = λ h.
    let ms = c.mentions-mentions.result.now in
    let i = c.loop-place.place in
    let m = c.index-mentions-place.result in
    let row = mentions_in c.loop-place.table h in
    let within : i < length ms = omega arith in
    let cut : take (i + 1) ms ≡ take i ms ++ m ∷ [] =
    (take_at_read ms i m within).1 ∙ ap (λ (k : Mention). take i ms ++ k ∷ []) (sym c.index-mentions-place.is) in
    let there : slice_get ms i ≡ Some m = slice_get_read ms _ i m refl within c.index-mentions-place.is in
    mention_more (λ (k : Mention). home_of c.args.places.now.regions k.region == h) ms row (mentions_in c.push.new.self h) i m there cut (c.loop-place.invariant h)
    (c.in_ok-push.ensures h ∙ ap (λ (q : ℕ). if q == h then row ++ i ∷ [] else row) c.home.ensures)
