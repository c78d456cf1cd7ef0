-- The slots that a step keeps have the same kinds, where its instruction finds what it takes.
use Rattle.std.proofs.Common.{◌≡◌, ◌⊎◌, inl, inr, ℕ, ◌+◌, ◌-◌, ◌≤◌, ◌<◌, zero, suc, min, Bool, true, false, if◌then◌else◌, List, [], ◌∷◌, ◌++◌, length, map, filter, take, Option, Some, None, refl, sym, ap, ◌∙◌, subst, arith}
use Rattle.std.specs.Prelude.{Contains, cond, slice_get}
use Rattle.std.proofs.lemmas.List.{length-take-le, take-append-drop}
use Rattle.std.proofs.lemmas.List.Elements.{Contains-append_cases}
use Rattle.std.proofs.lemmas.Bool.{false≢true, leb-true, cases_lt}
use Rattle.pt_instr.specs.declared.Instr.{Instr}
use Rattle.pt_instr.specs.declared.Instr.TheVariants as instr
use Rattle.pt_instr.specs.declared.effects.Effect.{Effect}
use Rattle.pt_instr.specs.Effects.{Kinds, effect_of}
use Rattle.pt_ranges.specs.declared.handlers.Handler.{Handler}
use Rattle.pt_code.specs.View.{Ins}
use Rattle.sem_fits.specs.fits.Block.{Block, effect, captured}
use Rattle.sem_fits.specs.fits.Steps.{Step, step, steps, steps_of, by_instruction, by_handlers, onward, aside, again, gives, given_behind, spared, below, taken, has_enough, finds, is_within, cut, held_by, landing, target_of, swaps_iterator, are_kinds}
use Rattle.sem_fits.proofs.fits.KindLemmas.{both, either, same_kinds, no_swap, length_below}
use Rattle.sem_fits.proofs.fits.Swaps.{given_plain}

module _ {A : Type 0} where
  pub get_taken : (n d : ℕ) (xs : List A) → d < n → slice_get (take n xs) d ≡ slice_get xs d
  get_taken zero d xs l = absurd (let h : ⊥ = omega (arith, l) in h)
  get_taken (suc n) d [] l = refl
  get_taken (suc n) zero (x ∷ xs) l = refl
  get_taken (suc n) (suc d) (x ∷ xs) l = get_taken n d xs (omega (arith, l))

  get_lower : (xs ys : List A) (d : ℕ) → d < length xs → slice_get (xs ++ ys) d ≡ slice_get xs d
  get_lower [] ys d l = absurd (let h : ⊥ = omega (arith, l) in h)
  get_lower (x ∷ xs) ys zero l = refl
  get_lower (x ∷ xs) ys (suc d) l = get_lower xs ys d (omega (arith, l))

  get_upper : (xs ys : List A) (d : ℕ) → length xs ≤ d → slice_get (xs ++ ys) d ≡ slice_get ys (d - length xs)
  get_upper [] ys d l = ap (slice_get ys) (let h : d ≡ d - 0 = omega arith in h)
  get_upper (x ∷ xs) ys zero l = absurd (let h : ⊥ = omega (arith, l) in h)
  get_upper (x ∷ xs) ys (suc d) l = get_upper xs ys d (omega (arith, l)) ∙ ap (slice_get ys) (let h : d - length xs ≡ suc d - suc (length xs) = omega arith in h)

  -- of two lists with one front
  get_front : (n d : ℕ) (xs ys : List A) → take n xs ≡ take n ys → d < n → slice_get xs d ≡ slice_get ys d
  get_front n d xs ys e l = sym (get_taken n d xs l) ∙ (ap (λ zs. slice_get zs d) e ∙ get_taken n d ys l)

-- what an instruction keeps of what it takes has the same kinds
abbrev Keeps : Effect → Kinds → Type 0
Keeps e g = take (min e.keeps (length g)) e.takes ≡ take (min e.keeps (length g)) g

abbrev KeepsOf : Effect → Option Kinds → Type 0
KeepsOf e None = Unit {0}
KeepsOf e (Some g) = Keeps e g

keeps_none : (e : Effect) (o : Option Kinds) → e.keeps ≡ 0 → KeepsOf e o
keeps_none e None k = tt
keeps_none e (Some g) k = subst (λ n. take n e.takes ≡ take n g) (let h : 0 ≡ min e.keeps (length g) = omega (arith, k) in h) refl

keeps_behind : (j : Instr) (f : ℕ) → KeepsOf (effect_of j f) (effect_of j f).gives
unfolding effect_of
keeps_behind instr.Copy f = refl
keeps_behind instr.Copy2 f = refl
keeps_behind (instr.Next t) f = refl
keeps_behind (instr.JumpIfKeep t) f = refl
keeps_behind (instr.JumpUnlessKeep t) f = refl
keeps_behind instr.Match f = refl
keeps_behind (instr.ImportName t) f = refl
keeps_behind j f = keeps_none (effect_of j f) (effect_of j f).gives refl

keeps_aside : (j : Instr) (f : ℕ) → KeepsOf (effect_of j f) (effect_of j f).aside
unfolding effect_of
keeps_aside instr.Copy f = tt
keeps_aside instr.Copy2 f = tt
keeps_aside (instr.Next t) f = refl
keeps_aside (instr.JumpIfKeep t) f = refl
keeps_aside (instr.JumpUnlessKeep t) f = refl
keeps_aside instr.Match f = tt
keeps_aside (instr.ImportName t) f = tt
keeps_aside j f = keeps_none (effect_of j f) (effect_of j f).aside refl

swap_keeps : (j : Instr) (f : ℕ) → (effect_of j f).swaps ≡ true → (effect_of j f).keeps ≡ 0
unfolding effect_of
swap_keeps instr.Swap f e = refl
swap_keeps j f e = absurd (false≢true e)

-- the slots that a step keeps have the same kinds
abbrev pub Alike : Kinds → Step → Type 0
Alike ks s = (d : ℕ) → d < s.kept → slice_get ks d ≡ slice_get s.kinds d

single : {X : Type 0} (x y : X) → Contains (x ∷ []) y → x ≡ y
single x y (zero, l, e) = e
single x y (suc k, l, e) = absurd (let h : ⊥ = omega (arith, l) in h)

module _ (b : Block) (q : ℕ) (i : Ins) (ks : Kinds) (stands : b.at q ≡ Some i) (finds_it : finds (effect b.links i.instr) ks ≡ true) where
  abbrev e : Effect
  e = effect b.links i.instr

  lower_alike : (given : Kinds) (d : ℕ) → d < spared e ks → slice_get ks d ≡ slice_get (below e ks ++ given) d
  lower_alike given d l = sym (get_taken (spared e ks) d ks l) ∙ sym (get_lower (below e ks) given d (subst (λ n. d < n) (sym (length_below e ks)) l))

  taken_alike : (given : Kinds) → swaps_iterator e ks ≡ false → Keeps e given → (d : ℕ) → spared e ks ≤ d → d < spared e ks + min e.keeps (length given)
      → slice_get ks d ≡ slice_get (below e ks ++ given) d
  taken_alike given n k d l m = ap (λ xs. slice_get xs d) (sym (take-append-drop (spared e ks) ks)) ∙ (get_upper (below e ks) (taken e ks) d (subst (λ n. n ≤ d) (sym (length_below e ks)) l)
      ∙ (ap (λ ts. slice_get ts (d - length (below e ks))) found_taken ∙ (get_front (min e.keeps (length given)) (d - length (below e ks)) e.takes given k
      (let s = length_below e ks in omega (arith, l, m, s)) ∙ sym (get_upper (below e ks) given d (subst (λ n. n ≤ d) (sym (length_below e ks)) l)))))
    where
      found_taken : taken e ks ≡ e.takes
      found_taken = same_kinds (taken e ks) e.takes (either (are_kinds (taken e ks) e.takes) (swaps_iterator e ks) (both _ _ finds_it).0 n)

  given_alike : (to : ℕ) (given : Kinds) → swaps_iterator e ks ≡ false → Keeps e given → Alike ks (gives e ks to given)
  given_alike to given n k d l = by_side (cases_lt d (spared e ks))
    where
      by_side : (d < spared e ks) ⊎ (spared e ks ≤ d) → slice_get ks d ≡ slice_get (below e ks ++ given) d
      by_side (inl m) = lower_alike given d m
      by_side (inr m) = taken_alike given n k d m l

  -- where two are swapped none of them is kept
  swapped_alike : (to : ℕ) (given : Kinds) → e.swaps ≡ true → Alike ks (gives e ks to given)
  swapped_alike to given y d l = lower_alike given d (let k = swap_keeps i.instr (captured b.links i.instr) y in omega (arith, k, l))

  behind_alike : (o : Option Kinds) → KeepsOf e o → (s : Step) → Contains (onward e ks i.next o) s → Alike ks s
  behind_alike None k s (n, l, f) = absurd (let h : ⊥ = omega (arith, l) in h)
  behind_alike (Some given) k s c = by_swap e.swaps refl
    where
      by_swap : (t : Bool) → e.swaps ≡ t → Alike ks s
      by_swap true y = subst (Alike ks) (single _ _ c) (swapped_alike i.next (given_behind e ks given) y)
      by_swap false n = subst (Alike ks) (single _ _ c) (subst (λ gs. Alike ks (gives e ks i.next gs)) (sym (given_plain e ks given n))
          (given_alike i.next given (no_swap e ks n) k))

  aside_alike : (t : Option ℕ) (o : Option Kinds) → KeepsOf e o → (s : Step) → Contains (aside e ks t o) s → Alike ks s
  aside_alike (Some t) (Some given) k s c = by_swap e.swaps refl
    where
      by_swap : (x : Bool) → e.swaps ≡ x → Alike ks s
      by_swap true y = subst (Alike ks) (single _ _ c) (swapped_alike t given y)
      by_swap false n = subst (Alike ks) (single _ _ c) (given_alike t given (no_swap e ks n) k)
  aside_alike (Some t) None k s (n, l, f) = absurd (let h : ⊥ = omega (arith, l) in h)
  aside_alike None (Some given) k s (n, l, f) = absurd (let h : ⊥ = omega (arith, l) in h)
  aside_alike None None k s (n, l, f) = absurd (let h : ⊥ = omega (arith, l) in h)

  again_alike : (t : Bool) (s : Step) → Contains (if t then step q ks (length ks) ∷ [] else []) s → Alike ks s
  again_alike true s c = subst (Alike ks) (single _ _ c) (λ d l. refl)
  again_alike false s (n, l, f) = absurd (let h : ⊥ = omega (arith, l) in h)

  abbrev own : List Step
  own = onward e ks i.next e.gives ++ (aside e ks (target_of i.instr) e.aside ++ again e ks q)

  own_alike : (s : Step) → Contains own s → Alike ks s
  own_alike s c = by_part (Contains-append_cases (onward e ks i.next e.gives) (aside e ks (target_of i.instr) e.aside ++ again e ks q) s c)
    where
      by_rest : Contains (aside e ks (target_of i.instr) e.aside) s ⊎ Contains (again e ks q) s → Alike ks s
      by_rest (inl c) = aside_alike (target_of i.instr) e.aside (keeps_aside i.instr (captured b.links i.instr)) s c
      by_rest (inr c) = again_alike e.again s c

      by_part : Contains (onward e ks i.next e.gives) s ⊎ Contains (aside e ks (target_of i.instr) e.aside ++ again e ks q) s → Alike ks s
      by_part (inl c) = behind_alike e.gives (keeps_behind i.instr (captured b.links i.instr)) s c
      by_part (inr c) = by_rest (Contains-append_cases (aside e ks (target_of i.instr) e.aside) (again e ks q) s c)

  handlers_alike : (rows : List Handler) (s : Step) → Contains (by_handlers e ks rows) s → Alike ks s
  handlers_alike [] s (n, l, f) = absurd (let h : ⊥ = omega (arith, l) in h)
  handlers_alike (row ∷ rows) s c = by_test (λ c. handlers_alike rows s c) (is_within e ks row) refl c
    where
      landed : is_within e ks row ≡ true → Alike ks (landing ks row)
      landed w d l = sym (get_taken row.depth d ks l) ∙ sym (get_lower (cut row ks) (held_by row ∷ []) d
          (let m = leb-true row.depth (spared e ks) w in let n = length-take-le row.depth ks (let h : row.depth ≤ length ks = omega (arith, m) in h) in omega (arith, l, n)))

      by_test : (Contains (by_handlers e ks rows) s → Alike ks s) → (t : Bool) → is_within e ks row ≡ t
          → Contains (map (landing ks) (cond t (row ∷ filter (is_within e ks) rows) (filter (is_within e ks) rows))) s → Alike ks s
      by_test ih true w (zero, l, f) = subst (Alike ks) f (landed w)
      by_test ih true w (suc n, l, f) = ih (n, (omega (arith, l)), f)
      by_test ih false w c = ih c

  by_own : (t : Bool) (s : Step) → Contains (if t then own else []) s → Alike ks s
  by_own true s c = own_alike s c
  by_own false s (n, l, f) = absurd (let h : ⊥ = omega (arith, l) in h)

  pub step_alike : (s : Step) → Contains (steps b q ks) s → Alike ks s
  step_alike s c = by_part (Contains-append_cases (by_instruction e ks q i) (by_handlers e ks i.rows) s (subst (λ o. Contains (steps_of b.links q ks o) s) stands c))
    where
      by_part : Contains (by_instruction e ks q i) s ⊎ Contains (by_handlers e ks i.rows) s → Alike ks s
      by_part (inl c) = by_own (has_enough e ks) s c
      by_part (inr c) = handlers_alike i.rows s c
