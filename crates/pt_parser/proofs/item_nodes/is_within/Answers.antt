use Rattle.std.proofs.Common.{◌≡◌, ◌≤◌, ◌<◌, ◌∙◌, sym, ap, map, length, arith}
use Rattle.std.proofs.lemmas.List.{length-map}
use Rattle.pt_wide.specs.Fold.{exp_of}
use Rattle.pt_readers.proofs.Exits.{is_not}
use Rattle.pt_parser.proofs.HeldLemmas.{tuple_in, tuple_out, whole_tuple}
use Rattle.pt_parser.proofs.item_nodes.is_within.Goals as goal

pub returns-then-listed-lt-MAX_DEPTH : goal.returns-then-listed-lt-MAX_DEPTH
returns-then-listed-lt-MAX_DEPTH c =
    let es = map exp_of c.args.listed.now.items.items in
    let n = length-map c.args.listed.now.items.items exp_of in
    rw (whole_tuple c.args.start.0 es c.args.listed.now.comma (λ h. is_not c.is_single.ensures c.if-is_single.false (h.0, sym n ∙ h.1))) (
      λ h. let k : c.len.result ≤ 4096 = grind (arith, h) in
          tuple_in c.args.start.0 es c.requires (omega (arith, c.if-listed-lt-MAX_DEPTH.true, c.args.listed.now.items.exact)) (omega (arith, k, n, c.len.ensures)),
      λ f. let k = tuple_out c.args.start.0 es f in grind (arith, k, n, c.len.ensures),
    )
