-- In a block whose instructions find their slots and go on to instructions, a place has the size with which some way comes to it, and no sizes disagree.
use Rattle.std.proofs.Common.{◌≡◌, ℕ, ◌+◌, ◌-◌, ◌≤◌, zero, suc, Bool, true, false, if◌then◌else◌, List, [], ◌∷◌, ◌++◌, length, map, filter, Option, Some, None, refl, sym, ap, ◌∙◌, subst, arith, length-append}
use Rattle.std.specs.Prelude.{Contains, cond}
use Rattle.std.proofs.lemmas.List.{length-take-le}
use Rattle.std.proofs.lemmas.List.Elements.{Contains-append_left, Contains-append_right}
use Rattle.std.proofs.lemmas.Bool.{false≢true, true_from_ne_false, le-leb}
use Rattle.pt_instr.specs.declared.Instr.{Instr}
use Rattle.pt_instr.specs.declared.Instr.TheVariants as instr
use Rattle.pt_instr.specs.declared.effects.Effect.{Effect}
use Rattle.pt_instr.specs.Effects.{Kinds, effect_of}
use Rattle.pt_ranges.specs.declared.handlers.Handler.{Handler}
use Rattle.pt_code.specs.declared.BlockKind.{BlockKind}
use Rattle.pt_code.specs.declared.BlockKind.TheVariants as block
use Rattle.pt_code.specs.declared.CodeBlock.{CodeBlock}
use Rattle.pt_code.specs.declared.Code.{Code}
use Rattle.pt_code.specs.View.{Ins}
use Rattle.sem_code.specs.slots.CodeObject.{Pool, CodeObject}
use Rattle.sem_code.specs.slots.Needs.{captured_by, needs}
use Rattle.sem_code.specs.slots.BlockObject as O
use Rattle.sem_code.specs.slots.BlockObject.{SlotsAt, pool_of, slots_at_start}
use Rattle.sem_fits.specs.fits.Block.{Links, Block, effect, captured, kinds_at_start, block_of}
use Rattle.sem_fits.specs.fits.Steps.{Step, step, steps, steps_of, by_instruction, by_handlers, held_by, onward, aside, again, gives, given_behind, spared, below, has_enough, is_within, cut, landing, target_of}
use Rattle.sem_fits.specs.fits.Places as P
use Rattle.sem_fits.specs.fits.Places.{Gets, Reached}
use Rattle.sem_fits.specs.fits.Agreement as A
use Rattle.sem_fits.specs.fits.Agreement.{LengthsMeet, HandlerFails, TooFew, Strays}
use Rattle.sem_fits.specs.fits.Laws.{IsLaid}
use Rattle.sem_fits.proofs.fits.KindLemmas.{length_below}
use Rattle.sem_fits.proofs.fits.Swaps.{given_size}
use Rattle.sem_fits.proofs.fits.Ways.{first, later}
use Rattle.pt_verify_depths.specs.Sizes as S
use Rattle.pt_verify_depths.specs.Sizes.{Sized, SizesMeet, RowTooDeep, Lacks}
use Rattle.pt_verify_depths.specs.PlaceTable as T
use Rattle.pt_verify_depths.specs.PlaceTable.{SizesDisagree}
use Rattle.pt_verify_depths.specs.Laws.{GetsSize}
use Rattle.pt_verify_depths.proofs.SizeLemmas.{kinds_have_sizes, sizes_meet_as_lengths, rows_are_as_deep, lack_as_few}
use Rattle.law_compile.specs.script_depths.Laws.{HasItsSizes}

same_start : (k : BlockKind) → slots_at_start k ≡ length (kinds_at_start k)
same_start block.Module = refl
same_start block.Function = refl
same_start block.Generator = refl
same_start block.Class = refl
same_start block.GeneratorExpression = refl

same_captured : (pool : Pool) (links : Links) → ((n : ℕ) → pool.captures n ≡ links.captures n) → (j : Instr) → captured_by pool j ≡ captured links j
same_captured pool links f (instr.MakeFunction b n l) = f b.0
same_captured pool links f (instr.MakeClass b) = f b.0
same_captured pool links f (instr.MakeGenerator b) = f b.0
same_captured pool links f j = refl

gives_size : (e : Effect) (ks given : Kinds) → length (below e ks ++ given) ≡ length ks - length e.takes + length given
gives_size e ks given = length-append (below e ks) given ∙ ap (λ m. m + length given) (length_below e ks)

test_holds : {X : Type 0} (xs ys : List X) (test : Bool) → test ≡ true → (x : X) → Contains xs x → Contains ((if test then xs else []) ++ ys) x
test_holds xs ys true e x c = Contains-append_left xs ys x c
test_holds xs ys false e x c = absurd (false≢true e)

row_in : {X : Type 0} (f : Handler → X) (test : Handler → Bool) (rows : List Handler) (row : Handler) → Contains rows row → test row ≡ true
    → Contains (map f (filter test rows)) (f row)
row_in f test [] row (k, l, e) w = absurd (let h : ⊥ = omega (arith, l) in h)
row_in f test (r ∷ rows) row (zero, l, e) w =
    subst (λ s. Contains (map f (cond (test s) (r ∷ filter test rows) (filter test rows))) (f row)) (sym e)
    (subst (λ t. Contains (map f (cond t (r ∷ filter test rows) (filter test rows))) (f row)) (sym w)
    (subst (λ s. Contains (f r ∷ map f (filter test rows)) (f s)) e (first (f r) (map f (filter test rows)))))
row_in f test (r ∷ rows) row (suc k, l, e) w = by (test r) (row_in f test rows row (k, (omega (arith, l)), e) w)
  where
    by : (t : Bool) → Contains (map f (filter test rows)) (f row) → Contains (map f (cond t (r ∷ filter test rows) (filter test rows))) (f row)
    by true c = later (f r) (map f (filter test rows)) (f row) c
    by false c = c

module _ {V : Type 0} (c : Code) (b : CodeBlock) (object : CodeObject V) (pool : object.pool ≡ pool_of c b) (some : (i : Ins) × (object.at 0 ≡ Some i))
    (laid : IsLaid (block_of c b object.at)) (finds : TooFew (block_of c b object.at) (length b.instructions) → ⊥)
    (inside : Strays (block_of c b object.at) (length b.instructions) → ⊥) where
  abbrev B : Block
  B = block_of c b object.at

  same_effect : (j : Instr) → needs object.pool j ≡ effect B.links j
  same_effect j = ap (effect_of j) (same_captured object.pool B.links (λ n. ap (λ p. p.captures n) pool) j)

  abbrev Has : (pc n : ℕ) → Type 0
  Has pc n = GetsSize B B.size pc n

  module _ (q n : ℕ) (i : Ins) (at : object.at q ≡ Some i) (here : Has q n) where
    abbrev e : Effect
    e = effect B.links i.instr

    reached : Reached B B.size q i here.kinds
    reached = record { gets = here.gets; low = laid q i at; stands = at }

    enough : has_enough e here.kinds ≡ true
    enough = true_from_ne_false _ (λ f. finds (A.lacks reached f))

    -- a way on leads to an instruction
    arrives : (s : Step) → Contains (steps_of B.links q here.kinds (Some i)) s → Has s.to (length s.kinds)
    arrives s k = by (object.at s.to) refl
      where
        there : Contains (steps B q here.kinds) (step s.to s.kinds s.kept)
        there = subst (λ o. Contains (steps_of B.links q here.kinds o) (step s.to s.kinds s.kept)) (sym at) k

        by : (o : Option Ins) → object.at s.to ≡ o → Has s.to (length s.kinds)
        by None h = absurd (inside (A.goes reached there h))
        by (Some j) h = record { kinds = s.kinds; gets = P.onward here.gets (laid q i at) there j h; long = refl }

    of_own : (s : Step) → Contains (onward e here.kinds i.next e.gives ++ (aside e here.kinds (target_of i.instr) e.aside ++ again e here.kinds q)) s
        → Has s.to (length s.kinds)
    of_own s k =
        arrives s (test_holds (onward e here.kinds i.next e.gives ++ (aside e here.kinds (target_of i.instr) e.aside ++ again e here.kinds q))
        (by_handlers e here.kinds i.rows) (has_enough e here.kinds) enough s k)

    behind : (given : Kinds) → e.gives ≡ Some given → Has i.next (n - length e.takes + length given)
    behind given g =
        let s = gives e here.kinds i.next (given_behind e here.kinds given) in
        let one : Contains (onward e here.kinds i.next e.gives) s = subst (λ o. Contains (onward e here.kinds i.next o) s) (sym g) (first s []) in
        subst (Has i.next) (gives_size e here.kinds (given_behind e here.kinds given)
        ∙ (ap (λ m. length here.kinds - length e.takes + m) (given_size i.instr (captured B.links i.instr) here.kinds given g) ∙ ap (λ m. m - length e.takes + length given) here.long))
        (of_own s (Contains-append_left (onward e here.kinds i.next e.gives) (aside e here.kinds (target_of i.instr) e.aside ++ again e here.kinds q) s one))

    to_target : (t : ℕ) (given : Kinds) → target_of i.instr ≡ Some t → e.aside ≡ Some given → Has t (n - length e.takes + length given)
    to_target t given f g =
        let s = gives e here.kinds t given in
        let one : Contains (aside e here.kinds (target_of i.instr) e.aside) s =
        subst (λ o. Contains (aside e here.kinds o e.aside) s) (sym f) (subst (λ o. Contains (aside e here.kinds (Some t) o) s) (sym g) (first s [])) in
        subst (Has t) (gives_size e here.kinds given ∙ ap (λ m. m - length e.takes + length given) here.long)
        (of_own s (Contains-append_right (onward e here.kinds i.next e.gives) (aside e here.kinds (target_of i.instr) e.aside ++ again e here.kinds q) s
        (Contains-append_left (aside e here.kinds (target_of i.instr) e.aside) (again e here.kinds q) s one)))

    handled : (row : Handler) → Contains i.rows row → row.depth + length e.takes ≤ n → Has row.target.0 (suc row.depth)
    handled row k m =
        let l = here.long in
        let deep : row.depth ≤ spared e here.kinds = omega (arith, m, l) in
        let less : row.depth ≤ length here.kinds = omega (arith, m, l) in
        let s = landing here.kinds row in
        let long : length s.kinds ≡ suc row.depth =
        length-append (cut row here.kinds) (held_by row ∷ []) ∙ (let h = length-take-le row.depth here.kinds less in omega (arith, h)) in
        subst (Has row.target.0) long
        (arrives s (Contains-append_right (by_instruction e here.kinds q i) (by_handlers e here.kinds i.rows) s
        (row_in (landing here.kinds) (is_within e here.kinds) i.rows row k (le-leb row.depth (spared e here.kinds) deep))))

  gets_of : {pc n : ℕ} → SlotsAt object.at object.pool (slots_at_start b.kind) pc n → Has pc n
  gets_of O.at_start = record { kinds = kinds_at_start b.kind; gets = P.start some.0 some.1; long = sym (same_start b.kind) }
  gets_of (O.behind pc n i given s at m g) =
      subst (λ f. f.gives ≡ Some given → Has i.next (n - length f.takes + length given)) (sym (same_effect i.instr)) (behind pc n i at (gets_of s) given) g
  gets_of (O.aside pc n to i given s at m f g) =
      subst (λ x. x.aside ≡ Some given → Has to (n - length x.takes + length given)) (sym (same_effect i.instr)) (to_target pc n i at (gets_of s) to given f) g
  gets_of (O.handled pc n i row s at k m) =
      subst (λ f. row.depth + length f.takes ≤ n → Has row.target.0 (suc row.depth)) (sym (same_effect i.instr)) (handled pc n i at (gets_of s) row k) m

  pub sized_of : (pc n : ℕ) → SlotsAt object.at object.pool (slots_at_start b.kind) pc n → Sized B B.size pc n
  sized_of pc n s = let g = gets_of s in subst (Sized B B.size pc) g.long (kinds_have_sizes B B.size pc g.kinds g.gets)

  -- instructions stand at the size of the block and below
  low : {p q n : ℕ} → Sized B p q n → q ≤ B.size
  low (S.start i e) = laid 0 i e
  low (S.onward {r = r} s l k i e) = laid r i e

  within : {p q n : ℕ} → Sized B p q n → Sized B B.size q n
  within (S.start i e) = S.start i e
  within (S.onward s l k i e) = S.onward (within s) (low s) k i e

  module _ (lengths : LengthsMeet B B.size → ⊥) (handlers : (row : Handler) → HandlerFails B B.size row → ⊥) where
    agree : (p : ℕ) → SizesDisagree B p → ⊥
    agree p (T.meet (S.two s t e)) = lengths ((sizes_meet_as_lengths B B.size).lengths (S.two (within s) (within t) e))
    agree p (T.deep row (S.deep s l at k e)) =
        let d = (rows_are_as_deep B B.size row).kinds (S.deep (within s) (low s) at k e) in handlers row (A.too_deep d.reached d.under d.fails)
    agree p (T.few (S.lacks s l at e)) =
        let f = (lack_as_few B B.size).kinds (S.lacks (within s) (low s) at e) in finds (A.lacks f.reached f.fails)

    pub has_its_sizes : HasItsSizes B object
    has_its_sizes = record { agree = agree; sized = sized_of }
