use Rattle.std.proofs.Common.{◌≡◌, ◌∙◌, ap, sym, subst, arith, rules, length, replicate, Option, Some, None}
use Rattle.std.proofs.lemmas.List.{length-set}
use Rattle.pt_instr.specs.Encoding.{StandsAt}
use Rattle.pt_sizes.specs.declared.places.Place.{Place}
use Rattle.sem_fits.specs.fits.Block.{links_of}
use Rattle.pt_verify_depths.proofs.PlaceLemmas.{no_places_at_first, up_to_next, has_places, nothing_unread}
use Rattle.pt_verify_depths.proofs.places.places.Goals as goal

pub returns-in_default : goal.returns-in_default
returns-in_default c = nothing_unread c.args.code.now c.args.block.now c.loop-at.at c.loop-at.table.items c.loop-at.invariant.long c.loop-at.invariant.places
    (let e : length c.as_slice-bytes.result.now ≡ length c.args.block.now.instructions = ap (λ xs. length xs) c.as_slice-bytes.ensures in omega arith)
    (λ j end f s. c.in_default.ensures.only j end f (subst (λ xs. StandsAt xs j c.loop-at.at end) (sym c.as_slice-bytes.ensures) s))

pub loop-at-init : goal.loop-at-init
loop-at-init c = let e : c.in_ok-table.table.items ≡ replicate {A = Option Place} (length c.as_slice-bytes.result.now) None = c.in_ok-table.ensures.items_if_clones_equal (search rules) in
    let h : length c.as_slice-bytes.result.now ≡ length c.args.block.now.instructions = ap (λ xs. length xs) c.as_slice-bytes.ensures in
    let k = no_places_at_first c.args.code.now c.args.block.now c.in_ok-table.table.items (e ∙ ap (λ n. replicate {A = Option Place} n None) h) in
    record { long = k.0; places = k.1 }

pub loop-at-preserved : goal.loop-at-preserved
loop-at-preserved c = record {
  long = length-set c.loop-at.table.items c.loop-at.at (Some c.in_ok-place_of.field-0) ∙ c.loop-at.invariant.long;
  places = λ instrs fit e. up_to_next (links_of c.args.code.now) c.args.block.now instrs c.loop-at.at c.loop-at.table.items (c.loop-at.invariant.places instrs fit e)
      c.loop-at.invariant.long
      (let h : length c.as_slice-bytes.result.now ≡ length c.args.block.now.instructions = ap (λ xs. length xs) c.as_slice-bytes.ensures in omega arith)
      c.in-Some.instr c.in-Some.next
      (λ j end f s. c.in-Some.ensures.only j end f (subst (λ xs. StandsAt xs j c.loop-at.at end) (sym c.as_slice-bytes.ensures) s))
      c.in-Some.ensures.within.0
      (let h = c.in-Some.ensures.within in let k : length c.as_slice-bytes.result.now ≡ length c.args.block.now.instructions = ap (λ xs. length xs) c.as_slice-bytes.ensures in omega (arith, h))
      c.in_ok-place_of.field-0 c.in_ok-place_of.ensures;
}

pub returns : goal.returns
returns c = has_places c.args.code.now c.args.block.now c.loop-at.at c.loop-at.table.items c.loop-at.invariant.long c.loop-at.invariant.places
    (let e : length c.as_slice-bytes.result.now ≡ length c.args.block.now.instructions = ap (λ xs. length xs) c.as_slice-bytes.ensures in omega arith)
