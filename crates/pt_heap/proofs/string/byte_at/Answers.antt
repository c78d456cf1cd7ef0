use Rattle.std.proofs.Common.{◌≡◌, ◌≤◌, ◌∙◌, ap, sym, Some, length, slice_get, refl, arith}
use Rattle.std.proofs.lemmas.Option.{slice_get_past, slice_get_read}
use Rattle.std.proofs.lemmas.Bool.{ltb-true}
use Rattle.std.proofs.lemmas.Str.{chars-IsAscii}
use Rattle.pt_heap.proofs.string.byte_at.Goals as goal

pub returns-in-Some : goal.returns-in-Some
returns-in-Some c =
    let at : slice_get c.as_bytes.result.now c.args.place ≡ Some c.in-Some.byte.now = slice_get_read _ _ _ _ refl (ltb-true _ _ (sym c.in-Some.ensures.lookup.0)) c.in-Some.ensures.lookup.1 in
    sym at ∙ ap (λ l. slice_get l c.args.place) (c.as_bytes.ensures.value ∙ sym (chars-IsAscii c.args.text.now c.requires))

pub returns-in-None : goal.returns-in-None
returns-in-None c =
    let past : length c.as_bytes.result.now ≤ c.args.place = omega (arith, c.in-None.ensures.lookup.3) in
    sym (slice_get_past c.as_bytes.result.now c.args.place past) ∙ ap (λ l. slice_get l c.args.place) (c.as_bytes.ensures.value ∙ sym (chars-IsAscii c.args.text.now c.requires))
