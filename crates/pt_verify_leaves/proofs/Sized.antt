-- The topmost slots that rows and Exits make, and those that an EndFinally and an Exit take.
use Rattle.std.proofs.Common.{◌≡◌, ℕ, suc, ◌-◌, ◌≤◌, true, List, [], ◌∷◌, ◌++◌, length, Option, Some, ap, ◌∙◌, arith, length-append}
use Rattle.std.specs.Prelude.{Contains}
use Rattle.std.proofs.lemmas.Bool.{true_from_ne_false, leb-true}
use Rattle.std.proofs.lemmas.List.{length-take-le}
use Rattle.pt_instr.specs.declared.Instr.TheVariants.{EndFinally, Exit}
use Rattle.pt_instr.specs.declared.effects.Effect.{Effect}
use Rattle.pt_instr.specs.declared.kinds.Kind.TheVariants.{Pending}
use Rattle.pt_instr.specs.Effects.{Kinds}
use Rattle.pt_ranges.specs.declared.handlers.Handler.{Handler}
use Rattle.pt_code.specs.View.{Ins}
use Rattle.pt_sizes.specs.Flow.{entry}
use Rattle.sem_fits.specs.fits.Block.{Block, effect, captured}
use Rattle.sem_fits.specs.fits.Steps.{below, given_behind, has_enough, cut, held_by}
use Rattle.sem_fits.specs.fits.Places.{Gets, Reached}
use Rattle.sem_fits.specs.fits.Leaves.{taker, takes_leave}
use Rattle.sem_fits.proofs.fits.KindLemmas.{length_below}
use Rattle.sem_fits.proofs.fits.Swaps.{given_size}
use Rattle.sem_fits.proofs.fits.Ways.{found_contained, place_of}
use Rattle.pt_verify_depths.specs.PlaceTable.{AreSizesUpTo, few}
use Rattle.pt_verify_depths.proofs.SizeLemmas.{kinds_have_sizes, sizes_have_kinds, lack_as_few}
use Rattle.pt_common_slots.specs.Common.{RowsLead}
use Rattle.pt_common_slots.proofs.Law.{IsPlace, takes_one, takes_two, gives_one, behind, at_handler, depth_spared}

module _ (b : Block) (p : ℕ) (sizes : List (Option ℕ)) (are : AreSizesUpTo b p sizes) where
  pub sized : (q : ℕ) (ks : Kinds) → Gets b p q ks → entry sizes q ≡ Some (length ks)
  sized q ks g = are.whole q (length ks) (kinds_have_sizes b p q ks g)

  pub stands : (q n : ℕ) → entry sizes q ≡ Some n → IsPlace b q
  stands q n e = place_of (sizes_have_kinds b p q n (are.sound q n e)).gets

  -- an instruction at a place that has a size
  pub record ReachedWith (q n : ℕ) (i : Ins) : Type 0 where
    pub kinds : Kinds
    pub reached : Reached b p q i kinds
    pub long : length kinds ≡ n

  pub reached_with : (q n : ℕ) (i : Ins) → entry sizes q ≡ Some n → q ≤ p → b.at q ≡ Some i → ReachedWith q n i
  reached_with q n i e low at = let g = sizes_have_kinds b p q n (are.sound q n e) in
      record { kinds = g.kinds; reached = record { gets = g.gets; low = low; stands = at }; long = g.long }

  module _ (q : ℕ) (i : Ins) (ks : Kinds) (reached : Reached b p q i ks) where
    abbrev e : Effect
    e = effect b.links i.instr

    enough : has_enough e ks ≡ true
    enough = true_from_ne_false _ (λ f. are.agree (few ((lack_as_few b p).sizes
        (record { pc = q; ins = i; kinds = ks; reached = reached; fails = f }))))

    taken : length e.takes ≤ length ks
    taken = let h = leb-true _ (length ks) enough in omega (arith, h)

    pub end_sized : i.instr ≡ EndFinally → entry sizes q ≡ Some (suc (length ks - 1))
    end_sized is =
        let one = takes_one b.links i.instr is in
        let long : length ks ≡ suc (length ks - 1) = omega (arith, taken, one) in
        sized q ks reached.gets ∙ ap (λ n. Some n) long

    pub exit_sized : i.instr ≡ Exit → entry sizes q ≡ Some (suc (length ks - 1))
    exit_sized is =
        let two = takes_two b.links i.instr is in
        let long : length ks ≡ suc (length ks - 1) = omega (arith, taken, two) in
        sized q ks reached.gets ∙ ap (λ n. Some n) long

    pub behind_sized : i.instr ≡ Exit → IsPlace b i.next → entry sizes i.next ≡ Some (suc (length ks - 2))
    behind_sized is there =
        let two = takes_two b.links i.instr is in
        let gives = gives_one b.links i.instr is in
        let s = behind b p are.agree q i ks reached (Pending ∷ []) gives there in
        let low = length_below e ks in
        let up = given_size i.instr (captured b.links i.instr) ks (Pending ∷ []) gives in
        let all = length-append (below e ks) (given_behind e ks (Pending ∷ [])) in
        let long : length (below e ks ++ given_behind e ks (Pending ∷ [])) ≡ suc (length ks - 2) = omega (arith, taken, two, low, up, all) in
        sized i.next _ s.gets ∙ ap (λ n. Some n) long

    -- the row that takes a Leave
    pub among : (t : ℕ) (row : Handler) → taker i.rows t ≡ Some row → Contains i.rows row
    among t row f = (found_contained (takes_leave t) i.rows row f).0

    pub depth_low : (row : Handler) → Contains i.rows row → row.depth ≤ length ks - length e.takes
    depth_low row c = depth_spared b p are.agree q i ks reached row c

    pub row_sized : RowsLead b → (row : Handler) → Contains i.rows row → entry sizes row.target.0 ≡ Some (suc row.depth)
    row_sized lead row c =
        let s = at_handler b p are.agree q i ks reached lead row c in
        let low = depth_low row c in
        let lower : row.depth ≤ length ks = omega (arith, low) in
        let cut_long = length-take-le row.depth ks lower in
        let all = length-append (cut row ks) (held_by row ∷ []) in
        let long : length (cut row ks ++ held_by row ∷ []) ≡ suc row.depth = omega (arith, cut_long, all) in
        sized row.target.0 _ s.gets ∙ ap (λ n. Some n) long
