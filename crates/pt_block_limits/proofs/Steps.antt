-- The steps of an instruction lead to its exits.
use Rattle.std.proofs.Common.{◌≡◌, ℕ, Bool, true, false, if◌then◌else◌, List, [], ◌∷◌, ◌++◌, length, map, filter, Option, Some, None, refl, sym, ap, ◌∙◌, subst, zero, suc, arith, ◌⊎◌, inl, inr}
use Rattle.std.specs.Prelude.{cond, Contains}
use Rattle.std.proofs.lemmas.List.Elements.{Contains-append_left, Contains-append_right, Contains-append_cases}
use Rattle.std.proofs.lemmas.Bool.{false≢true}
use Rattle.std.proofs.lemmas.Option.{same_Some}
use Rattle.pt_instr.specs.declared.Instr.{Instr}
use Rattle.pt_instr.specs.declared.Instr.TheVariants as instr
use Rattle.pt_instr.specs.declared.Instr.TheVariants.{Leave}
use Rattle.pt_instr.specs.declared.effects.Effect.{Effect}
use Rattle.pt_instr.specs.Effects.{Kinds, effect_of}
use Rattle.pt_code.specs.View.{Ins}
use Rattle.sem_fits.specs.fits.Block.{Links, effect, captured}
use Rattle.sem_fits.specs.fits.Steps.{Step, step, gives, given_behind, onward, aside, again, by_instruction, has_enough, target_of}
use Rattle.pt_step_graph.specs.Steps.{own, some_of}
use Rattle.pt_block_limits.specs.Exits.{if_given, jump_of, exits_of}

-- what an instruction gives, and whether it stays, doesn't depend on free names

gives_same : (i : Instr) (f : ℕ) → (effect_of i f).gives ≡ (effect_of i 0).gives
unfolding effect_of
gives_same instr.Nop f = refl
gives_same i f = refl

again_same : (i : Instr) (f : ℕ) → (effect_of i f).again ≡ (effect_of i 0).again
unfolding effect_of
again_same instr.Nop f = refl
again_same i f = refl

none_in : {X : Type 0} (x : X) → Contains [] x → ⊥
none_in x (k, lt, is) = absurd (omega arith)

only_one : {X : Type 0} (x y : X) → Contains (x ∷ []) y → x ≡ y
only_one x y (zero, lt, e) = e
only_one x y (suc k, lt, e) = absurd (omega arith)

pub the_one : {X : Type 0} (x : X) → Contains (x ∷ []) x
the_one x = (zero, omega arith, refl)

some_is : {X : Type 0} (o : Option X) (x : X) → o ≡ Some x → None ≡ o → ⊥
some_is o x e f = let g : None ≡ Some x = f ∙ e in cc

-- a jump gives something at its target
jump_gives : (i : Instr) (f t : ℕ) → target_of i ≡ Some t → (given : Kinds) × ((effect_of i f).aside ≡ Some given)
unfolding effect_of
jump_gives (instr.Next to) f t e = ([], refl)
jump_gives (instr.Jump to) f t e = ([], refl)
jump_gives (instr.JumpIf to) f t e = ([], refl)
jump_gives (instr.JumpUnless to) f t e = ([], refl)
jump_gives (instr.JumpIfKeep to) f t e = (_, refl)
jump_gives (instr.JumpUnlessKeep to) f t e = (_, refl)
jump_gives i f t e = absurd (some_is None t e refl)

jump_is : (i : Instr) (t : ℕ) → target_of i ≡ Some t → jump_of i ≡ Some t
jump_is (Leave to) t e = absurd (some_is None t e refl)
jump_is i t e = e

pub leave_jumps : (i : Instr) (t : ℕ) → i ≡ Leave (record { 0 = t }) → jump_of i ≡ Some t
leave_jumps i t e = ap (λ j. jump_of j) e

jump_or : (i : Instr) (t : ℕ) → jump_of i ≡ Some t → (target_of i ≡ Some t) ⊎ (i ≡ Leave (record { 0 = t }))
jump_or (Leave to) t e = inr (ap (λ n. Leave (record { 0 = n })) (same_Some _ _ e))
jump_or i t e = inl e

module _ (links : Links) (i : Ins) (ks : Kinds) (q : ℕ) (held : Option ℕ) where
  abbrev e : Effect
  e = effect links i.instr

  gives_is : e.gives ≡ (effect_of i.instr 0).gives
  gives_is = gives_same i.instr (captured links i.instr)

  again_is : e.again ≡ (effect_of i.instr 0).again
  again_is = again_same i.instr (captured links i.instr)

  abbrev exits : List ℕ
  exits = own (exits_of i.instr i.next held) q

  in_onward : (r : ℕ) → Contains (some_of (if_given i.next (effect_of i.instr 0).gives)) r → Contains exits r
  in_onward r c = Contains-append_left (some_of (if_given i.next (effect_of i.instr 0).gives))
      (some_of (jump_of i.instr) ++ (if (effect_of i.instr 0).again then q ∷ [] else [])) r c

  pub in_aside : (r : ℕ) → jump_of i.instr ≡ Some r → Contains exits r
  in_aside r w = Contains-append_right (some_of (if_given i.next (effect_of i.instr 0).gives))
      (some_of (jump_of i.instr) ++ (if (effect_of i.instr 0).again then q ∷ [] else [])) r
      (Contains-append_left (some_of (jump_of i.instr)) (if (effect_of i.instr 0).again then q ∷ [] else []) r
      (subst (λ o. Contains (some_of o) r) (sym w) (the_one r)))

  in_again : (r : ℕ) → Contains (if (effect_of i.instr 0).again then q ∷ [] else []) r → Contains exits r
  in_again r c = Contains-append_right (some_of (if_given i.next (effect_of i.instr 0).gives))
      (some_of (jump_of i.instr) ++ (if (effect_of i.instr 0).again then q ∷ [] else [])) r
      (Contains-append_right (some_of (jump_of i.instr)) (if (effect_of i.instr 0).again then q ∷ [] else []) r c)

  from_onward : (o : Option Kinds) → e.gives ≡ o → (s : Step) → Contains (onward e ks i.next o) s → Contains exits s.to
  from_onward None w s c = absurd (none_in s c)
  from_onward (Some given) w s c = in_onward s.to (subst (λ o. Contains (some_of (if_given i.next o)) s.to) (sym w ∙ gives_is)
      (subst (λ r. Contains (i.next ∷ []) r) (ap (λ x. x.to) (only_one (gives e ks i.next (given_behind e ks given)) s c)) (the_one i.next)))

  from_aside : (t : Option ℕ) → target_of i.instr ≡ t → (o : Option Kinds) → (s : Step) → Contains (aside e ks t o) s → Contains exits s.to
  from_aside None w o s c = absurd (none_in s c)
  from_aside (Some t) w None s c = absurd (none_in s c)
  from_aside (Some t) w (Some given) s c = subst (λ r. Contains exits r) (ap (λ x. x.to) (only_one (gives e ks t given) s c)) (in_aside t (jump_is i.instr t w))

  from_again : (t : Bool) → e.again ≡ t → (s : Step) → Contains (cond t (step q ks (length ks) ∷ []) []) s → Contains exits s.to
  from_again false w s c = absurd (none_in s c)
  from_again true w s c = in_again s.to (subst (λ x. Contains (cond x (q ∷ []) []) s.to) (sym w ∙ again_is)
      (subst (λ r. Contains (q ∷ []) r) (ap (λ x. x.to) (only_one (step q ks (length ks)) s c)) (the_one q)))

  pub from_steps : (s : Step) → Contains (by_instruction e ks q i) s → Contains exits s.to
  from_steps s c = by_test (has_enough e ks) c
    where
      by_test : (t : Bool) → Contains (cond t (onward e ks i.next e.gives ++ (aside e ks (target_of i.instr) e.aside ++ again e ks q)) []) s
          → Contains exits s.to
      by_test false d = absurd (none_in s d)
      by_test true d = elim (Contains-append_cases (onward e ks i.next e.gives) (aside e ks (target_of i.instr) e.aside ++ again e ks q) s d) [
        | inl a ↦ from_onward e.gives refl s a
        | inr a ↦ elim (Contains-append_cases (aside e ks (target_of i.instr) e.aside) (again e ks q) s a) [
          | inl x ↦ from_aside (target_of i.instr) refl e.aside s x
          | inr x ↦ from_again e.again refl s x
        ]
      ]

  -- and each exit of an instruction with enough slots is a step, or a Leave's
  abbrev pub Steps : ℕ → Type 0
  Steps r = (s : Step) × (Contains (by_instruction e ks q i) s × (s.to ≡ r))

  module _ (enough : has_enough e ks ≡ true) where
    all : (s : Step) → Contains (onward e ks i.next e.gives ++ (aside e ks (target_of i.instr) e.aside ++ again e ks q)) s
        → Contains (by_instruction e ks q i) s
    all s c = subst (λ t. Contains (cond t (onward e ks i.next e.gives ++ (aside e ks (target_of i.instr) e.aside ++ again e ks q)) []) s) (sym enough) c

    to_onward : (r : ℕ) (o : Option Kinds) → e.gives ≡ o → Contains (some_of (if_given i.next o)) r → Steps r
    to_onward r None w c = absurd (none_in r c)
    to_onward r (Some given) w c =
        let s = gives e ks i.next (given_behind e ks given) in (
          s,
          (
            all s (Contains-append_left (onward e ks i.next e.gives) (aside e ks (target_of i.instr) e.aside ++ again e ks q) s
                (subst (λ o. Contains (onward e ks i.next o) s) (sym w) (the_one s))),
            only_one i.next r c,
          ),
        )

    to_aside : (r : ℕ) → target_of i.instr ≡ Some r → Steps r
    to_aside r w =
        let (given, f) = jump_gives i.instr (captured links i.instr) r w in
        let s = gives e ks r given in (
          s,
          (
            all s (Contains-append_right (onward e ks i.next e.gives) (aside e ks (target_of i.instr) e.aside ++ again e ks q) s
                (Contains-append_left (aside e ks (target_of i.instr) e.aside) (again e ks q) s
                (subst (λ t. Contains (aside e ks t e.aside) s) (sym w) (subst (λ o. Contains (aside e ks (Some r) o) s) (sym f) (the_one s))))),
            refl,
          ),
        )

    to_again : (r : ℕ) (t : Bool) → e.again ≡ t → Contains (cond t (q ∷ []) []) r → Steps r
    to_again r false w c = absurd (none_in r c)
    to_again r true w c =
        let s = step q ks (length ks) in (
          s,
          (
            all s (Contains-append_right (onward e ks i.next e.gives) (aside e ks (target_of i.instr) e.aside ++ again e ks q) s
                (Contains-append_right (aside e ks (target_of i.instr) e.aside) (again e ks q) s
                (subst (λ x. Contains (cond x (s ∷ []) []) s) (sym w) (the_one s)))),
            only_one q r c,
          ),
        )

    in_some : (o : Option ℕ) (r : ℕ) → Contains (some_of o) r → o ≡ Some r
    in_some None r c = absurd (none_in r c)
    in_some (Some x) r c = ap (λ y. Some y) (only_one x r c)

    pub to_steps : (r : ℕ) → Contains exits r → Steps r ⊎ (i.instr ≡ Leave (record { 0 = r }))
    to_steps r c = elim (Contains-append_cases (some_of (if_given i.next (effect_of i.instr 0).gives))
        (some_of (jump_of i.instr) ++ (if (effect_of i.instr 0).again then q ∷ [] else [])) r c) [
          | inl a ↦ inl (to_onward r (effect_of i.instr 0).gives gives_is a)
          | inr a ↦ elim (Contains-append_cases (some_of (jump_of i.instr)) (if (effect_of i.instr 0).again then q ∷ [] else []) r a) [
            | inl x ↦ elim (jump_or i.instr r (in_some (jump_of i.instr) r x)) [ inl y ↦ inl (to_aside r y) | inr y ↦ inr y ]
            | inr x ↦ inl (to_again r (effect_of i.instr 0).again again_is x)
          ]
        ]

-- rows among those that are kept

module _ {X : Type 0} (p : X → Bool) where
  pub kept : (xs : List X) (x : X) → Contains (filter p xs) x → Contains xs x × (p x ≡ true)
  kept [] x c = absurd (none_in x c)
  kept (y ∷ ys) x c = by_test (kept ys x) (p y) refl c
    where
      behind : Contains ys x → Contains (y ∷ ys) x
      behind (k, l, e) = (suc k, omega (arith, l), e)

      by_test : (Contains (filter p ys) x → Contains ys x × (p x ≡ true)) → (t : Bool) → p y ≡ t → Contains (cond t (y ∷ filter p ys) (filter p ys)) x
          → Contains (y ∷ ys) x × (p x ≡ true)
      by_test ih true w (zero, l, e) = ((zero, omega arith, e), subst (λ z. p z ≡ true) e w)
      by_test ih true w (suc k, l, e) = let (c, t) = ih (k, omega (arith, l), e) in (behind c, t)
      by_test ih false w c = let (d, t) = ih c in (behind d, t)

  pub keeps : (xs : List X) (x : X) → Contains xs x → p x ≡ true → Contains (filter p xs) x
  keeps [] x c t = absurd (none_in x c)
  keeps (y ∷ ys) x (zero, l, e) t = by_test (p y) (subst (λ z. p z ≡ true) (sym e) t)
    where
      by_test : (u : Bool) → u ≡ true → Contains (cond u (y ∷ filter p ys) (filter p ys)) x
      by_test true w = (zero, omega arith, e)
      by_test false w = absurd (false≢true w)
  keeps (y ∷ ys) x (suc k, l, e) t = by_test (keeps ys x (k, omega (arith, l), e) t) (p y)
    where
      by_test : Contains (filter p ys) x → (u : Bool) → Contains (cond u (y ∷ filter p ys) (filter p ys)) x
      by_test (j, m, g) true = (suc j, omega (arith, m), g)
      by_test c false = c

pub mapped : {X Y : Type 0} (f : X → Y) (xs : List X) (y : Y) → Contains (map f xs) y → (x : X) × (Contains xs x × (f x ≡ y))
mapped f [] y c = absurd (none_in y c)
mapped f (x ∷ xs) y (zero, l, e) = (x, ((zero, omega arith, refl), e))
mapped f (x ∷ xs) y (suc k, l, e) = let (z, ((j, m, g), h)) = mapped f xs y (k, omega (arith, l), e) in (z, ((suc j, omega (arith, m), g), h))

pub maps : {X Y : Type 0} (f : X → Y) (xs : List X) (x : X) → Contains xs x → Contains (map f xs) (f x)
maps f [] x c = absurd (none_in x c)
maps f (y ∷ ys) x (zero, l, e) = (zero, omega arith, ap f e)
maps f (y ∷ ys) x (suc k, l, e) = let (j, m, g) = maps f ys x (k, omega (arith, l), e) in (suc j, omega (arith, m), g)
