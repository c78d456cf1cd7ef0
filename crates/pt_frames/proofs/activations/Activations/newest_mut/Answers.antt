use Rattle.std.proofs.Common.{◌≡◌, ◌∙◌, ◌-◌, ◌<◌, List, Some, length, ap, sym, refl, arith, reverse}
use Rattle.std.proofs.lemmas.List.{length-reverse}
use Rattle.std.proofs.lemmas.Option.{slice_get_read}
use Rattle.std.specs.Prelude.{slice_get}
use Rattle.pt_frames.specs.declared.activations.OpenActivation.{OpenActivation}
use Rattle.pt_frames.specs.Lending.{with_newest}
use Rattle.pt_frames.proofs.NewestLemmas.{newest-set, newest-get}
use Rattle.pt_frames.proofs.activations.Activations.newest_mut.Goals as goal

pub returns : goal.returns
returns c =
    let items : List OpenActivation = c.self.inside.items.items in
    let len : c.len-newest.result ≡ length items = c.len-newest.ensures ∙ c.self.inside.items.ok.0 in
    let same : length (reverse items) ≡ length c.args.self.now = ap length c.self.view_is in
    let some : 0 < c.len-newest.result = omega (arith, length-reverse items) in
    let last : slice_get items (c.len-newest.result - 1) ≡ Some c.index_mut.result.now = slice_get_read items c.len-newest.result (c.len-newest.result - 1) c.index_mut.result.now len (omega arith) c.index_mut.ensures.value in (
      (refl, λ w. newest-set items c.len-newest.result w len some ∙ ap (λ l. with_newest l w) c.self.view_is),
      record {
        writes_back = tt;
        value = ap (λ l. slice_get l 0) (sym c.self.view_is) ∙ newest-get items c.len-newest.result c.index_mut.result.now len some last;
      },
    )
