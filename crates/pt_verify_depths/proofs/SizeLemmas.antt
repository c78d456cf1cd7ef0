-- The sizes of steps are the lengths of the kinds there.
use Rattle.std.proofs.Common.{◌≡◌, ℕ, ◌+◌, ◌≤◌, zero, suc, Bool, true, false, if◌then◌else◌, List, [], ◌∷◌, ◌++◌, length, map, filter, take, Option, Some, None, refl, sym, ap, ◌∙◌, subst, arith, length-append}
use Rattle.std.specs.Prelude.{Contains, cond, nat_eq}
use Rattle.std.proofs.lemmas.List.{map-append, length-take-le}
use Rattle.std.proofs.lemmas.Bool.{leb-true}
use Rattle.pt_instr.specs.declared.effects.Effect.{Effect}
use Rattle.pt_instr.specs.Effects.{Kinds}
use Rattle.pt_ranges.specs.declared.handlers.Handler.{Handler}
use Rattle.pt_code.specs.View.{Ins}
use Rattle.sem_fits.specs.fits.Block.{Links, Block, effect, captured, kinds_at_start}
use Rattle.sem_fits.specs.fits.Steps.{Step, step, steps, steps_of, by_instruction, by_handlers, held_by, onward, aside, again, given_behind, spared, below, has_enough, is_within, landing, target_of}
use Rattle.sem_fits.specs.fits.Places as P
use Rattle.sem_fits.specs.fits.Places.{Gets, Reached}
use Rattle.sem_fits.specs.fits.Agreement as A
use Rattle.sem_fits.specs.fits.Agreement.{LengthsMeet}
use Rattle.sem_fits.proofs.fits.KindLemmas.{length_below}
use Rattle.sem_fits.proofs.fits.Swaps.{given_size}
use Rattle.sem_fits.proofs.fits.Ways.{later}
use Rattle.pt_verify_depths.specs.Sizes as S
use Rattle.pt_verify_depths.specs.Sizes.{SizeStep, sized, left, is_enough, gives_onward, gives_aside, gives_again, own_sizes, leaves_enough, landing_size, handler_sizes, size_steps, size_steps_of, Sized, SizesMeet, RowTooDeep, Lacks}
use Rattle.pt_verify_depths.specs.Laws.{GetsSize, KindsHaveSizes, SizesHaveKinds, AsLengths, Deep, Few, AsDeep, AsFew}

abbrev size_of : Step → SizeStep
size_of s = sized s.to (length s.kinds)

module _ {X Y : Type 0} (f : X → Y) where
  contains_map : (xs : List X) (x : X) → Contains xs x → Contains (map f xs) (f x)
  contains_map [] x (k, l, e) = absurd (let h : ⊥ = omega (arith, l) in h)
  contains_map (y ∷ ys) x (zero, l, e) = (zero, (omega arith), ap f e)
  contains_map (y ∷ ys) x (suc k, l, e) = let (j, m, g) = contains_map ys x (k, (omega (arith, l)), e) in (suc j, (omega (arith, m)), g)

  contained_map : (xs : List X) (y : Y) → Contains (map f xs) y → (x : X) × (Contains xs x × (f x ≡ y))
  contained_map [] y (k, l, e) = absurd (let h : ⊥ = omega (arith, l) in h)
  contained_map (x ∷ xs) y (zero, l, e) = (x, ((zero, (omega arith), refl), e))
  contained_map (x ∷ xs) y (suc k, l, e) = let (z, (c, g)) = contained_map xs y (k, (omega (arith, l)), e) in (z, (later x xs z c, g))

module _ (links : Links) (q : ℕ) (i : Ins) (ks : Kinds) where
  abbrev e : Effect
  e = effect links i.instr

  onward_sizes : (o : Option Kinds) → e.gives ≡ o → map size_of (onward e ks i.next o) ≡ gives_onward e (length ks) i.next o
  onward_sizes None g = refl
  onward_sizes (Some given) g = ap (λ n. sized i.next n ∷ [])
      (length-append (below e ks) (given_behind e ks given) ∙ (ap (λ m. m + length (given_behind e ks given)) (length_below e ks) ∙ ap (λ m. spared e ks + m) (given_size i.instr (captured links i.instr) ks given g)))

  aside_sizes : (t : Option ℕ) (o : Option Kinds) → map size_of (aside e ks t o) ≡ gives_aside e (length ks) t o
  aside_sizes (Some t) (Some given) = ap (λ n. sized t n ∷ []) (length-append (below e ks) given ∙ ap (λ m. m + length given) (length_below e ks))
  aside_sizes (Some t) None = refl
  aside_sizes None (Some given) = refl
  aside_sizes None None = refl

  again_sizes : (t : Bool) → map size_of (if t then step q ks (length ks) ∷ [] else []) ≡ (if t then sized q (length ks) ∷ [] else [])
  again_sizes true = refl
  again_sizes false = refl

  abbrev parts : List Step
  parts = onward e ks i.next e.gives ++ (aside e ks (target_of i.instr) e.aside ++ again e ks q)

  abbrev size_parts : List SizeStep
  size_parts = gives_onward e (length ks) i.next e.gives ++ (gives_aside e (length ks) (target_of i.instr) e.aside ++ gives_again e (length ks) q)

  parts_sizes : map size_of parts ≡ size_parts
  parts_sizes = map-append size_of (onward e ks i.next e.gives) (aside e ks (target_of i.instr) e.aside ++ again e ks q)
      ∙ (ap (λ xs. xs ++ map size_of (aside e ks (target_of i.instr) e.aside ++ again e ks q)) (onward_sizes e.gives refl)
      ∙ ap (λ xs. gives_onward e (length ks) i.next e.gives ++ xs)
      (map-append size_of (aside e ks (target_of i.instr) e.aside) (again e ks q)
      ∙ (ap (λ xs. xs ++ map size_of (again e ks q)) (aside_sizes (target_of i.instr) e.aside)
      ∙ ap (λ xs. gives_aside e (length ks) (target_of i.instr) e.aside ++ xs) (again_sizes e.again))))

  own : (t : Bool) → map size_of (if t then parts else []) ≡ (if t then size_parts else [])
  own true = parts_sizes
  own false = refl

  landing_long : (row : Handler) → is_within e ks row ≡ true → size_of (landing ks row) ≡ landing_size row
  landing_long row w = ap (λ n. sized row.target.0 n) (length-append (take row.depth ks) (held_by row ∷ []) ∙ ap (λ m. m + 1)
      (length-take-le row.depth ks (let l = leb-true row.depth (spared e ks) w in let h : row.depth ≤ length ks = omega (arith, l) in h)))

  handlers : (rows : List Handler) → map size_of (by_handlers e ks rows) ≡ handler_sizes e (length ks) rows
  handlers [] = refl
  handlers (row ∷ rows) = by_test (handlers rows) (is_within e ks row) refl
    where
      by_test : map size_of (by_handlers e ks rows) ≡ handler_sizes e (length ks) rows → (t : Bool) → is_within e ks row ≡ t
          → map size_of (map (landing ks) (cond t (row ∷ filter (is_within e ks) rows) (filter (is_within e ks) rows)))
          ≡ map landing_size (cond t (row ∷ filter (leaves_enough e (length ks)) rows) (filter (leaves_enough e (length ks)) rows))
      by_test ih true w = ap (λ s. s ∷ map size_of (by_handlers e ks rows)) (landing_long row w) ∙ ap (λ ss. landing_size row ∷ ss) ih
      by_test ih false w = ih

  at_ins : map size_of (steps_of links q ks (Some i)) ≡ size_steps_of links q (length ks) (Some i)
  at_ins = map-append size_of (by_instruction e ks q i) (by_handlers e ks i.rows)
      ∙ (ap (λ xs. xs ++ map size_of (by_handlers e ks i.rows)) (own (has_enough e ks)) ∙ ap (λ xs. own_sizes e (length ks) q i ++ xs) (handlers i.rows))

steps_sizes : (b : Block) (q : ℕ) (ks : Kinds) → map size_of (steps b q ks) ≡ size_steps b q (length ks)
steps_sizes b q ks = at_place (b.at q)
  where
    at_place : (o : Option Ins) → map size_of (steps_of b.links q ks o) ≡ size_steps_of b.links q (length ks) o
    at_place None = refl
    at_place (Some i) = at_ins b.links q i ks

pub kinds_have_sizes : (b : Block) → KindsHaveSizes b
kinds_have_sizes b p q _ (P.start i e) = S.start i e
kinds_have_sizes b p _ _ (P.onward {q = q} {r = r} {kept = k} {ks = ks} {ls = ls} g l c i e) = S.onward (kinds_have_sizes b p q ks g) l
    (subst (λ xs. Contains xs (sized r (length ls))) (steps_sizes b q ks) (contains_map size_of (steps b q ks) (step r ls k) c)) i e

module _ (b : Block) (p : ℕ) where
  with_kinds : {q r m : ℕ} (ks : Kinds) → Gets b p q ks → q ≤ p → Contains (size_steps b q (length ks)) (sized r m) → (i : Ins) → b.at r ≡ Some i → GetsSize b p r m
  with_kinds {q = q} {r = r} {m = m} ks g l c i e = let (s, (d, f)) = contained_map size_of (steps b q ks) (sized r m) (subst (λ xs. Contains xs (sized r m)) (sym (steps_sizes b q ks)) c) in
      arrived s d f
    where
      arrived : (s : Step) → Contains (steps b q ks) s → size_of s ≡ sized r m → GetsSize b p r m
      arrived s d f = record {
        kinds = s.kinds;
        gets = subst (λ r. Gets b p r s.kinds) (ap (λ t. t.to) f)
            (P.onward g l d i (subst (λ r. b.at r ≡ Some i) (sym (ap (λ t. t.to) f)) e));
        long = ap (λ t. t.size) f;
      }

  sizes_have : {q n : ℕ} → Sized b p q n → GetsSize b p q n
  sizes_have (S.start i e) = record { kinds = kinds_at_start b.kind; gets = P.start i e; long = refl }
  sizes_have (S.onward {q = q} {r = r} {n = n} {m = m} s l c i e) = let g = sizes_have s in
      with_kinds g.kinds g.gets l (subst (λ n. Contains (size_steps b q n) (sized r m)) (sym g.long) c) i e

pub sizes_have_kinds : (b : Block) → SizesHaveKinds b
sizes_have_kinds b p q n s = sizes_have b p s

module _ (b : Block) (p : ℕ) where
  sizes_meet : LengthsMeet b p → SizesMeet b p
  sizes_meet (A.two {q = q} {ks = ks} {ls = ls} g h e) = S.two (kinds_have_sizes b p q ks g) (kinds_have_sizes b p q ls h) e

  lengths_meet : SizesMeet b p → LengthsMeet b p
  lengths_meet (S.two {q = q} {n = n} {m = m} s t e) = let g = sizes_have b p s in let h = sizes_have b p t in
      A.two g.gets h.gets (subst (λ m. nat_eq (length g.kinds) m ≡ false) (sym h.long) (subst (λ n. nat_eq n m ≡ false) (sym g.long) e))

  row_deep : (row : Handler) → Deep b p row → RowTooDeep b p row
  row_deep row d = S.deep (kinds_have_sizes b p d.pc d.kinds d.reached.gets) d.reached.low d.reached.stands d.under d.fails

  deep_row : (row : Handler) → RowTooDeep b p row → Deep b p row
  deep_row row (S.deep {q = q} {n = n} {i = i} s l a c e) = let g = sizes_have b p s in
      record {
        pc = q;
        ins = i;
        kinds = g.kinds;
        reached = record { gets = g.gets; low = l; stands = a };
        under = c;
        fails = subst (λ n. leaves_enough (effect b.links i.instr) n row ≡ false) (sym g.long) e;
      }

  few_lacks : Few b p → Lacks b p
  few_lacks f = S.lacks (kinds_have_sizes b p f.pc f.kinds f.reached.gets) f.reached.low f.reached.stands f.fails

  lacks_few : Lacks b p → Few b p
  lacks_few (S.lacks {q = q} {n = n} {i = i} s l a e) = let g = sizes_have b p s in
      record { pc = q; ins = i; kinds = g.kinds; reached = record { gets = g.gets; low = l; stands = a }; fails = subst (λ n. is_enough (effect b.links i.instr) n ≡ false) (sym g.long) e }

pub sizes_meet_as_lengths : (b : Block) (p : ℕ) → AsLengths b p
sizes_meet_as_lengths b p = record { sizes = λ m. sizes_meet b p m; lengths = λ m. lengths_meet b p m }

pub rows_are_as_deep : (b : Block) (p : ℕ) (row : Handler) → AsDeep b p row
rows_are_as_deep b p row = record { sizes = λ d. row_deep b p row d; kinds = λ d. deep_row b p row d }

pub lack_as_few : (b : Block) (p : ℕ) → AsFew b p
lack_as_few b p = record { sizes = λ f. few_lacks b p f; kinds = λ f. lacks_few b p f }
