-- The table of places is made instruction by instruction.
use Rattle.std.proofs.Common.{◌≡◌, ℕ, ◌+◌, ◌<◌, ◌≤◌, zero, suc, Bool, true, false, if◌then◌else◌, List, [], ◌∷◌, ◌++◌, length, filter, Option, Some, None, refl, sym, ap, ◌∙◌, subst, arith, ◌⊎◌, inl, inr, set, length-append, replicate}
use Rattle.std.specs.Prelude.{nat_eq, drop}
use Rattle.std.specs.List.{flat_map, AllByRecursion}
use Rattle.std.proofs.lemmas.Bool.Decides.{nat_tests}
use Rattle.std.proofs.lemmas.List.{get_or-set_other, get_or-set_same, length-replicate}
use Rattle.std.proofs.lemmas.Option.{same_Some}
use Rattle.pt_ranges.specs.declared.handlers.Handler.{Handler}
use Rattle.pt_ranges.specs.Rows.{covers}
use Rattle.pt_instr.specs.declared.Instr.{Instr}
use Rattle.pt_instr.specs.Encoding.{encoding, Fits, StandsAt}
use Rattle.pt_code.specs.declared.CodeBlock.{CodeBlock}
use Rattle.pt_code.specs.declared.Code.{Code}
use Rattle.pt_code.specs.View.{Ins, ins_at, laid_from, IsView}
use Rattle.pt_sizes.specs.declared.places.Place.{Place}
use Rattle.pt_sizes.specs.declared.flow.Sizes.{Sizes}
use Rattle.pt_sizes.specs.Flow.{entry, Tells}
use Rattle.pt_sizes.specs.Search.{body_of}
use Rattle.pt_sizes.proofs.Tables.{entry_none}
use Rattle.pt_partial_sizes.specs.Cut.{TellsBelow}
use Rattle.sem_fits.specs.fits.Block.{Block, Links, links_of, block_of, effect, kinds_at_start}
use Rattle.sem_fits.specs.fits.Steps.{target_of}
use Rattle.pt_verify_depths.specs.PlaceTable.{place_of, place_at, HasPlaces, TellsSizes, TellsSizesUpTo}
use Rattle.pt_verify_depths.specs.PlacesUpTo.{PlacesUpTo}
use Rattle.pt_verify_depths.proofs.PlaceTable.{tables_tell, tables_tell_up_to}

other : (q r : ℕ) → r < q → nat_eq r q ≡ false
other q r h = grind (arith, nat_tests)

laid_here : (b : CodeBlock) (pc : ℕ) (i : Instr) (is : List Instr) → laid_from b pc (i ∷ is) pc ≡ Some (ins_at b pc i)
laid_here b pc i is = ap (λ t. if t then Some (ins_at b pc i) else laid_from b (pc + length (encoding i)) is pc) (let e : nat_eq pc pc ≡ true = grind (arith, nat_tests) in e)

laid_behind : (b : CodeBlock) (pc : ℕ) (i : Instr) (is : List Instr) (q : ℕ) → pc < q → laid_from b pc (i ∷ is) q ≡ laid_from b (pc + length (encoding i)) is q
laid_behind b pc i is q h = ap (λ t. if t then Some (ins_at b q i) else laid_from b (pc + length (encoding i)) is q) (other q pc h)

laid_before : (b : CodeBlock) (pc : ℕ) (is : List Instr) (q : ℕ) → q < pc → laid_from b pc is q ≡ None
laid_before b pc [] q h = refl
laid_before b pc (i ∷ is) q h = ap (λ t. if t then Some (ins_at b q i) else laid_from b (pc + length (encoding i)) is q) (let e : nat_eq pc q ≡ false = grind (arith, nat_tests) in e)
    ∙ laid_before b (pc + length (encoding i)) is q (omega arith)

laid_rows : (b : CodeBlock) (pc : ℕ) (is : List Instr) (q : ℕ) (i : Ins) → laid_from b pc is q ≡ Some i → i.rows ≡ filter (λ row. covers row (record { 0 = q })) b.handlers
laid_rows b pc [] q i e = absurd (cc)
laid_rows b pc (j ∷ is) q i e = by_test (nat_eq pc q) (laid_rows b (pc + length (encoding j)) is q i) e
  where
    by_test : (t : Bool) → (laid_from b (pc + length (encoding j)) is q ≡ Some i → i.rows ≡ filter (λ row. covers row (record { 0 = q })) b.handlers)
        → (if t then Some (ins_at b q j) else laid_from b (pc + length (encoding j)) is q) ≡ Some i → i.rows ≡ filter (λ row. covers row (record { 0 = q })) b.handlers
    by_test true ih g = subst (λ x. x.rows ≡ filter (λ row. covers row (record { 0 = q })) b.handlers) (same_Some _ _ g) refl
    by_test false ih g = ih g

drop_past : (n : ℕ) (xs ys zs : List ℕ) → drop n xs ≡ ys ++ zs → drop (n + length ys) xs ≡ zs
drop_past n xs [] zs e = subst (λ m. drop m xs ≡ zs) (let z : n ≡ n + 0 = omega arith in z) e
drop_past n xs (y ∷ ys) zs e = subst (λ m. drop m xs ≡ zs) (let z : suc n + length ys ≡ n + suc (length ys) = omega arith in z) (drop_past (suc n) xs ys zs (drop_one n xs (ys ++ zs) e))
  where
    drop_one : (n : ℕ) (xs ws : List ℕ) → drop n xs ≡ y ∷ ws → drop (suc n) xs ≡ ws
    drop_one n [] ws e = absurd (let h : [] ≡ y ∷ ws = no_drop n e in cc)
      where
        no_drop : (n : ℕ) → drop n [] ≡ y ∷ ws → [] ≡ y ∷ ws
        no_drop zero e = e
        no_drop (suc n) e = e
    drop_one zero (x ∷ xs) ws e = ap (λ vs. drop 1 vs) e
    drop_one (suc n) (x ∷ xs) ws e = drop_one n xs ws e

drop_long : (n : ℕ) (xs : List ℕ) → length xs ≤ n → drop n xs ≡ []
drop_long zero [] h = refl
drop_long zero (x ∷ xs) h = absurd (omega arith)
drop_long (suc n) [] h = refl
drop_long (suc n) (x ∷ xs) h = drop_long n xs (omega arith)

drop_short : (n : ℕ) (xs : List ℕ) → drop n xs ≡ [] → length xs ≤ n
drop_short zero [] h = omega arith
drop_short zero (x ∷ xs) h = absurd (cc)
drop_short (suc n) [] h = omega arith
drop_short (suc n) (x ∷ xs) h = let k = drop_short n xs h in omega (arith, k)

module _ (links : Links) (b : CodeBlock) (instrs : List Instr) where
  pub up_to_start : (table : List (Option Place)) → AllByRecursion Fits instrs → b.instructions ≡ flat_map encoding instrs
      → ((q : ℕ) → entry table q ≡ None) → PlacesUpTo links b instrs 0 table
  up_to_start table fit e none = record { left = instrs; fit = fit; spelled = e; low = omega arith; behind = λ q h. refl; done = λ q h. absurd (omega arith); ahead = λ q h. none q }

  module _ (pc : ℕ) (table : List (Option Place)) (t : PlacesUpTo links b instrs pc table) where
    pub up_to_next : length table ≡ length b.instructions → pc < length b.instructions → (i : Instr) (next : ℕ)
        → ((j : Instr) (end : ℕ) → Fits j → StandsAt b.instructions j pc end → ◌≡◌ {A = Option (Instr × ℕ)} (Some (i, next)) (Some (j, end))) → pc < next → next ≤ length b.instructions
        → (place : Place) → place ≡ place_of (effect links i) (target_of i) next → PlacesUpTo links b instrs next (set table pc (Some place))
    up_to_next long lt i next only up low place is = by_left t.left t.fit t.spelled t.behind
      where
        by_left : (left : List Instr) → AllByRecursion Fits left → drop pc b.instructions ≡ flat_map encoding left → ((q : ℕ) → pc ≤ q → laid_from b 0 instrs q ≡ laid_from b pc left q)
            → PlacesUpTo links b instrs next (set table pc (Some place))
        by_left [] fit e behind = absurd (let h = drop_short pc b.instructions e in omega (arith, h, lt))
        by_left (j ∷ rest) (fit, fits) e behind = record {
          left = rest;
          fit = fits;
          spelled = subst (λ n. drop n b.instructions ≡ flat_map encoding rest) (sym to) (drop_past pc b.instructions (encoding j) (flat_map encoding rest) e);
          low = low;
          behind = λ q h. behind q (omega (arith, h, up)) ∙ (laid_behind b pc j rest q (omega (arith, h, up)) ∙ ap (λ n. laid_from b n rest q) (sym to));
          done = λ q h. by_place q h;
          ahead = λ q h. get_or-set_other table pc q (Some place) None (λ k. omega (arith, k, h, up)) ∙ t.ahead q (omega (arith, h, up));
        }
          where
            found : ◌≡◌ {A = Instr × ℕ} (i, next) (j, pc + length (encoding j))
            found = same_Some _ _ (only j (pc + length (encoding j)) fit (length (encoding j), (flat_map encoding rest, e, refl), refl))

            same : i ≡ j
            same = ap (λ x. x.0) found

            to : next ≡ pc + length (encoding j)
            to = ap (λ x. x.1) found

            at_pc : entry (set table pc (Some place)) pc ≡ place_at links (laid_from b 0 instrs pc)
            at_pc = get_or-set_same table pc (Some place) None (omega (arith, long, lt))
                ∙ (ap (λ x. Some x) (is ∙ (ap (λ x. place_of (effect links x) (target_of x) next) same ∙ ap (λ n. place_of (effect links j) (target_of j) n) to))
                ∙ sym (ap (place_at links) (behind pc (omega arith) ∙ laid_here b pc j rest)))

            inner : (q : ℕ) → pc < q → q < next → entry (set table pc (Some place)) q ≡ place_at links (laid_from b 0 instrs q)
            inner q h k = get_or-set_other table pc q (Some place) None (λ e. omega (arith, e, h))
                ∙ (t.ahead q (omega (arith, h)) ∙ sym (ap (place_at links) (behind q (omega (arith, h)) ∙ (laid_behind b pc j rest q h ∙ laid_before b (pc + length (encoding j)) rest q (omega (arith, k, to))))))

            before : (q : ℕ) → q < pc → entry (set table pc (Some place)) q ≡ place_at links (laid_from b 0 instrs q)
            before q h = get_or-set_other table pc q (Some place) None (λ e. omega (arith, e, h)) ∙ t.done q h

            by_place : (q : ℕ) → q < next → entry (set table pc (Some place)) q ≡ place_at links (laid_from b 0 instrs q)
            by_place q h = cases (trichotomy q pc)
              where
                trichotomy : (x y : ℕ) → (x < y) ⊎ ((x ≡ y) ⊎ (y < x))
                trichotomy zero zero = inr (inl refl)
                trichotomy zero (suc y) = inl (omega arith)
                trichotomy (suc x) zero = inr (inr (omega arith))
                trichotomy (suc x) (suc y) = elim (trichotomy x y) [ inl a ↦ inl (omega arith) | inr z ↦ elim z [ inl a ↦ inr (inl (ap (λ n. suc n) a)) | inr a ↦ inr (inr (omega arith)) ] ]

                cases : (q < pc) ⊎ ((q ≡ pc) ⊎ (pc < q)) → entry (set table pc (Some place)) q ≡ place_at links (laid_from b 0 instrs q)
                cases (inl a) = before q a
                cases (inr (inl a)) = subst (λ n. entry (set table pc (Some place)) n ≡ place_at links (laid_from b 0 instrs n)) (sym a) at_pc
                cases (inr (inr a)) = inner q a h

    pub up_to_end : length b.instructions ≤ pc → (q : ℕ) → entry table q ≡ place_at links (laid_from b 0 instrs q)
    up_to_end le q = at_q
      where
        nothing_left : (left : List Instr) → drop pc b.instructions ≡ flat_map encoding left → (q : ℕ) → laid_from b pc left q ≡ None
        nothing_left [] e q = refl
        nothing_left (j ∷ rest) e q = absurd (no_bytes (sym (drop_long pc b.instructions le) ∙ e))
          where
            no_bytes : [] ≡ flat_map encoding (j ∷ rest) → ⊥
            no_bytes e = let n : 0 ≡ length (flat_map encoding (j ∷ rest)) = ap (λ xs. length xs) e in
                let m : length (flat_map encoding (j ∷ rest)) ≡ length (encoding j) + length (flat_map encoding rest) = length-append (encoding j) (flat_map encoding rest) in omega (arith, n, m)

        above : (q : ℕ) → pc ≤ q → entry table q ≡ place_at links (laid_from b 0 instrs q)
        above q h = t.ahead q h ∙ sym (ap (place_at links) (t.behind q h ∙ nothing_left t.left t.spelled q))

        by_order : (x y : ℕ) → (x < y) ⊎ (y ≤ x)
        by_order zero zero = inr (omega arith)
        by_order zero (suc y) = inl (omega arith)
        by_order (suc x) zero = inr (omega arith)
        by_order (suc x) (suc y) = elim (by_order x y) [ inl a ↦ inl (omega arith) | inr a ↦ inr (omega arith) ]

        at_q : entry table q ≡ place_at links (laid_from b 0 instrs q)
        at_q = elim (by_order q pc) [ inl a ↦ t.done q a | inr a ↦ above q a ]

    -- while bytes are left, an instruction stands there
    pub something_stands : pc < length b.instructions → ((j : Instr) (end : ℕ) → Fits j → StandsAt b.instructions j pc end → ◌≡◌ {A = Option (Instr × ℕ)} None (Some (j, end))) → ⊥
    something_stands lt only = by_left t.left t.fit t.spelled
      where
        by_left : (left : List Instr) → AllByRecursion Fits left → drop pc b.instructions ≡ flat_map encoding left → ⊥
        by_left [] fit e = let h = drop_short pc b.instructions e in omega (arith, h, lt)
        by_left (j ∷ rest) (fit, fits) e = absurd (none (only j (pc + length (encoding j)) fit (length (encoding j), (flat_map encoding rest, e, refl), refl)))
          where
            none : ◌≡◌ {A = Option (Instr × ℕ)} None (Some (j, pc + length (encoding j))) → ⊥
            none h = cc

module _ (code : Code) (b : CodeBlock) (pc : ℕ) (table : List (Option Place)) (long : length table ≡ length b.instructions)
    (all : (instrs : List Instr) → AllByRecursion Fits instrs → b.instructions ≡ flat_map encoding instrs → PlacesUpTo (links_of code) b instrs pc table) where
  pub has_places : length b.instructions ≤ pc → (view : ℕ → Option Ins) → IsView b view → HasPlaces (block_of code b view) table
  has_places le view is = subst (λ v. HasPlaces (block_of code b v) table) (sym is.view_is) (record {
    each = up_to_end (links_of code) b is.instrs pc table (all is.instrs is.fits is.spelled) le;
    long = omega (arith, long);
    rows = λ q i e. laid_rows b 0 is.instrs q i e;
  })

  pub nothing_unread : pc < length b.instructions → ((j : Instr) (end : ℕ) → Fits j → StandsAt b.instructions j pc end → ◌≡◌ {A = Option (Instr × ℕ)} None (Some (j, end)))
      → (view : ℕ → Option Ins) → IsView b view → HasPlaces (block_of code b view) table
  nothing_unread lt only view is = absurd (something_stands (links_of code) b is.instrs pc table (all is.instrs is.fits is.spelled) lt only)

pub no_places_at_first : (code : Code) (b : CodeBlock) (table : List (Option Place)) → table ≡ replicate {A = Option Place} (length b.instructions) None
    → (length table ≡ length b.instructions) × ((instrs : List Instr) → AllByRecursion Fits instrs → b.instructions ≡ flat_map encoding instrs → PlacesUpTo (links_of code) b instrs 0 table)
no_places_at_first code b table e = (
  ap (λ xs. length xs) e ∙ length-replicate {A = Option Place} (length b.instructions) None,
  λ instrs fit same. up_to_start (links_of code) b instrs table fit same (λ q. subst (λ xs. entry xs q ≡ None) (sym e) (entry_none (length b.instructions) q)),
)

pub tells_of_block : (b : Block) (table : List (Option Place)) (rows : List Handler) (first : ℕ) → HasPlaces b table → rows ≡ b.handlers → first ≡ length (kinds_at_start b.kind)
    → (s : Sizes) → Tells (body_of table rows first) s → TellsSizes b s
tells_of_block b table rows first is e f s t = tables_tell b table is s (subst (λ n. Tells (body_of table b.handlers n) s) f (subst (λ rs. Tells (body_of table rs first) s) e t))

pub tells_of_block_up_to : (b : Block) (table : List (Option Place)) (rows : List Handler) (first : ℕ) → HasPlaces b table
    → rows ≡ b.handlers → first ≡ length (kinds_at_start b.kind) → (p limit : ℕ) → limit ≡ p + 1 → (s : Sizes)
    → TellsBelow (body_of table rows first) limit s → TellsSizesUpTo b p s
tells_of_block_up_to b table rows first is e f p limit l s t =
    tables_tell_up_to b table is p s (subst (λ n. TellsBelow (body_of table b.handlers n) (p + 1) s) f
    (subst (λ rs. TellsBelow (body_of table rs first) (p + 1) s) e (subst (λ m. TellsBelow (body_of table rows first) m s) l t)))
