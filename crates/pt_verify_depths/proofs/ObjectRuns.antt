-- A code object of a block that fits runs it: it knows how many slots lie at each place.
use Rattle.std.proofs.Common.{◌≡◌, ◌⊎◌, inl, inr, ℕ, ◌+◌, ◌-◌, ◌≤◌, zero, suc, Bool, true, false, if◌then◌else◌, List, [], ◌∷◌, ◌++◌, length, map, filter, Option, Some, None, refl, ap, subst, arith}
use Rattle.std.specs.Prelude.{Contains, cond}
use Rattle.std.proofs.lemmas.List.Elements.{Contains-append_cases}
use Rattle.std.proofs.lemmas.Bool.{true_from_ne_false, leb-true}
use Rattle.pt_instr.specs.declared.Instr.{Instr}
use Rattle.pt_instr.specs.declared.Instr.TheVariants as instr
use Rattle.pt_instr.specs.declared.effects.Effect.{Effect}
use Rattle.pt_instr.specs.Effects.{Kinds, effect_of}
use Rattle.pt_ranges.specs.declared.handlers.Handler.{Handler}
use Rattle.pt_code.specs.declared.BlockKind.{BlockKind}
use Rattle.pt_code.specs.declared.BlockKind.TheVariants as block
use Rattle.pt_code.specs.declared.CodeBlock.{CodeBlock}
use Rattle.pt_code.specs.declared.Code.{Code}
use Rattle.pt_code.specs.View.{Ins}
use Rattle.sem_code.specs.slots.CodeObject.{Pool, CodeObject}
use Rattle.sem_code.specs.slots.Needs.{captured_by, needs}
use Rattle.sem_code.specs.slots.BlockObject as O
use Rattle.sem_code.specs.slots.BlockObject.{IsBlockObject, SlotsAt, pool_of, slots_at_start}
use Rattle.sem_fits.specs.fits.Block.{Links, Block, effect, captured, kinds_at_start, block_of}
use Rattle.sem_fits.specs.fits.Steps.{target_of}
use Rattle.sem_fits.specs.fits.Agreement as A
use Rattle.sem_fits.specs.fits.Agreement.{TooFew}
use Rattle.sem_fits.specs.fits.Laws.{Runs}
use Rattle.sem_fits.proofs.fits.ViewLaid.{view_is_laid}
use Rattle.sem_fits.proofs.fits.Ways.{first, later}
use Rattle.pt_verify_depths.specs.Sizes as S
use Rattle.pt_verify_depths.specs.Sizes.{SizeStep, sized, left, is_enough, gives_onward, gives_aside, gives_again, own_sizes, leaves_enough, landing_size, handler_sizes, size_steps, size_steps_of, Sized}
use Rattle.pt_verify_depths.specs.Objects.{ObjectRuns}
use Rattle.pt_verify_depths.proofs.SizeLemmas.{kinds_have_sizes, sizes_have_kinds}

same_start : (k : BlockKind) → slots_at_start k ≡ length (kinds_at_start k)
same_start block.Module = refl
same_start block.Function = refl
same_start block.Generator = refl
same_start block.Class = refl
same_start block.GeneratorExpression = refl

same_captured : (pool : Pool) (links : Links) → ((n : ℕ) → pool.captures n ≡ links.captures n) → (j : Instr) → captured_by pool j ≡ captured links j
same_captured pool links f (instr.MakeFunction b n l) = f b.0
same_captured pool links f (instr.MakeClass b) = f b.0
same_captured pool links f (instr.MakeGenerator b) = f b.0
same_captured pool links f j = refl

single : {X : Type 0} (x y : X) → Contains (x ∷ []) y → x ≡ y
single x y (zero, l, e) = e
single x y (suc k, l, e) = absurd (let h : ⊥ = omega (arith, l) in h)

nothing : {X : Type 0} (y : X) → Contains [] y → ⊥
nothing y (k, l, e) = let h : ⊥ = omega (arith, l) in h

module _ {V : Type 0} (c : Code) (b : CodeBlock) (object : CodeObject V) (is : IsBlockObject c b object)
    (finds : TooFew (block_of c b object.at) (length b.instructions) → ⊥) where
  abbrev B : Block
  B = block_of c b object.at

  abbrev At : (pc n : ℕ) → Type 0
  At pc n = SlotsAt object.at object.pool (slots_at_start b.kind) pc n

  same_captures : (n : ℕ) → object.pool.captures n ≡ B.links.captures n
  same_captures n = ap (λ p. p.captures n) is.pool

  same_effect : (j : Instr) → needs object.pool j ≡ effect B.links j
  same_effect j = ap (effect_of j) (same_captured object.pool B.links same_captures j)

  module _ (q n : ℕ) (i : Ins) (at : object.at q ≡ Some i) (here : At q n) (enough : length (effect B.links i.instr).takes ≤ n) where
    abbrev e : Effect
    e = effect B.links i.instr

    abbrev Comes : SizeStep → Type 0
    Comes s = At s.to s.size

    behind : (o : Option Kinds) → e.gives ≡ o → (s : SizeStep) → Contains (gives_onward e n i.next o) s → Comes s
    behind None g s k = absurd (nothing s k)
    behind (Some given) g s k = subst Comes (single _ s k) (subst (λ f. length f.takes ≤ n → f.gives ≡ Some given → At i.next (n - length f.takes + length given)) (same_effect i.instr)
        (λ m h. O.behind q n i given here at m h) enough g)

    aside : (t : Option ℕ) → target_of i.instr ≡ t → (o : Option Kinds) → e.aside ≡ o → (s : SizeStep) → Contains (gives_aside e n t o) s → Comes s
    aside (Some t) f (Some given) g s k = subst Comes (single _ s k) (subst (λ f. length f.takes ≤ n → f.aside ≡ Some given → At t (n - length f.takes + length given)) (same_effect i.instr)
        (λ m h. O.aside q n t i given here at m f h) enough g)
    aside (Some t) f None g s k = absurd (nothing s k)
    aside None f (Some given) g s k = absurd (nothing s k)
    aside None f None g s k = absurd (nothing s k)

    again : (t : Bool) → (s : SizeStep) → Contains (if t then sized q n ∷ [] else []) s → Comes s
    again true s k = subst Comes (single _ s k) here
    again false s k = absurd (nothing s k)

    own : (t : Bool) → (s : SizeStep) → Contains (if t then (gives_onward e n i.next e.gives ++ (gives_aside e n (target_of i.instr) e.aside ++ gives_again e n q)) else []) s → Comes s
    own false s k = absurd (nothing s k)
    own true s k = by_part (Contains-append_cases (gives_onward e n i.next e.gives) (gives_aside e n (target_of i.instr) e.aside ++ gives_again e n q) s k)
      where
        by_rest : Contains (gives_aside e n (target_of i.instr) e.aside) s ⊎ Contains (gives_again e n q) s → Comes s
        by_rest (inl k) = aside (target_of i.instr) refl e.aside refl s k
        by_rest (inr k) = again e.again s k

        by_part : Contains (gives_onward e n i.next e.gives) s ⊎ Contains (gives_aside e n (target_of i.instr) e.aside ++ gives_again e n q) s → Comes s
        by_part (inl k) = behind e.gives refl s k
        by_part (inr k) = by_rest (Contains-append_cases (gives_aside e n (target_of i.instr) e.aside) (gives_again e n q) s k)

    handled : (row : Handler) → Contains i.rows row → leaves_enough e n row ≡ true → At row.target.0 (row.depth + 1)
    handled row k w = subst (At row.target.0) (let h : suc row.depth ≡ row.depth + 1 = omega arith in h)
        (subst (λ f. row.depth + length f.takes ≤ n → At row.target.0 (suc row.depth)) (same_effect i.instr) (λ m. O.handled q n i row here at k m)
        (let l = leb-true row.depth (left e n) w in let m = enough in omega (arith, l, m)))

    by_rows : (rows : List Handler) → ((row : Handler) → Contains rows row → Contains i.rows row) → (s : SizeStep) → Contains (handler_sizes e n rows) s → Comes s
    by_rows [] f s k = absurd (nothing s k)
    by_rows (row ∷ rows) f s k = by_test (λ k. by_rows rows (λ r c. f r (later row rows r c)) s k) (leaves_enough e n row) refl k
      where
        by_test : (Contains (handler_sizes e n rows) s → Comes s) → (t : Bool) → leaves_enough e n row ≡ t
            → Contains (map landing_size (cond t (row ∷ filter (leaves_enough e n) rows) (filter (leaves_enough e n) rows))) s → Comes s
        by_test ih true w (zero, l, g) = subst Comes g (handled row (f row (first row rows)) w)
        by_test ih true w (suc m, l, g) = ih (m, (omega (arith, l)), g)
        by_test ih false w k = ih k

    steps : (s : SizeStep) → Contains (size_steps_of B.links q n (Some i)) s → Comes s
    steps s k = by_part (Contains-append_cases (own_sizes e n q i) (handler_sizes e n i.rows) s k)
      where
        by_part : Contains (own_sizes e n q i) s ⊎ Contains (handler_sizes e n i.rows) s → Comes s
        by_part (inl k) = own (is_enough e n) s k
        by_part (inr k) = by_rows i.rows (λ row c. c) s k

  some_at : {p q n : ℕ} → Sized B p q n → (i : Ins) × (object.at q ≡ Some i)
  some_at (S.start i e) = (i, e)
  some_at (S.onward s l k i e) = (i, e)

  enough_at : {q n : ℕ} (i : Ins) → object.at q ≡ Some i → q ≤ B.size → Sized B B.size q n → length (effect B.links i.instr).takes ≤ n
  enough_at {q = q} {n = n} i e l s = let g = sizes_have_kinds B B.size q n s in
      let w = leb-true _ (length g.kinds) (true_from_ne_false _ (λ f. finds (A.lacks (record { gets = g.gets; low = l; stands = e }) f))) in
      let m = g.long in omega (arith, w, m)

  -- a place has the number of slots with which some way comes to it
  pub sized_at : {q n : ℕ} → Sized B B.size q n → At q n
  sized_at (S.start i e) = subst (At 0) (same_start b.kind) O.at_start
  sized_at (S.onward {q = q} {r = r} {n = n} {m = m} s l k i e) = let (j, f) = some_at s in
      steps q n j f (sized_at s) (enough_at j f l s) (sized r m) (subst (λ o. Contains (size_steps_of B.links q n o) (sized r m)) f k)

  runs_it : Runs object B
  runs_it = record {
    at = λ pc. refl;
    captures = same_captures;
    depth_at = λ pc ks g. is.depths pc (length ks) (sized_at (kinds_have_sizes B B.size pc ks g));
    inside = view_is_laid c b object.at is.view;
  }

pub object_runs : (V : Type 0) → ObjectRuns V
object_runs V c b object is fits = runs_it c b object is fits.agrees.enough
