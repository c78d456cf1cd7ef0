-- What holds of an instruction that is reached in a block that fits: it finds what it takes, and each way on leads to a place that gets its kinds.
use Rattle.std.proofs.Common.{◌≡◌, ℕ, ◌+◌, ◌≤◌, zero, suc, min, Bool, true, false, if◌then◌else◌, List, [], ◌∷◌, ◌++◌, length, map, filter, Option, Some, None, refl, sym, ap, ◌∙◌, subst, arith}
use Rattle.std.specs.Prelude.{Contains, cond, find}
use Rattle.std.proofs.lemmas.List.Elements.{Contains-append_left, Contains-append_right}
use Rattle.std.proofs.lemmas.Bool.{true_from_ne_false, leb-true}
use Rattle.pt_instr.specs.declared.effects.Effect.{Effect}
use Rattle.pt_instr.specs.Effects.{Kinds}
use Rattle.pt_ranges.specs.declared.handlers.Handler.{Handler}
use Rattle.pt_code.specs.View.{Ins}
use Rattle.sem_fits.specs.fits.Block.{Block, effect}
use Rattle.sem_fits.specs.fits.Steps.{step, steps, steps_of, by_instruction, by_handlers, onward, aside, again, gives, given_behind, spared, below, has_enough, finds, is_within, cut, held_by, landing, target_of, is_prefix}
use Rattle.sem_fits.specs.fits.Places.{Gets, Reached}
use Rattle.sem_fits.specs.fits.Places as places
use Rattle.sem_fits.specs.fits.Leaves as L
use Rattle.sem_fits.specs.fits.Leaves.{Departs, Goes, Common, Holds, Leaving, taker, takes_leave}
use Rattle.sem_fits.specs.fits.Agreement as A
use Rattle.sem_fits.specs.fits.Fits.{Fits, Arrives}

module _ {X : Type 0} where
  pub first : (x : X) (xs : List X) → Contains (x ∷ xs) x
  first x xs = (0, (omega arith), refl)

  pub later : (y : X) (xs : List X) (x : X) → Contains xs x → Contains (y ∷ xs) x
  later y xs x (k, l, e) = (suc k, (omega (arith, l)), e)

  pub found_contained : (test : X → Bool) (xs : List X) (x : X) → find test xs ≡ Some x → Contains xs x × (test x ≡ true)
  found_contained test [] x e = absurd (let h : ⊥ = subst (λ o. elim o as (λ z. Type 0) [ None ↦ Unit {0} | Some z ↦ ⊥ ]) e tt in h)
  found_contained test (y ∷ ys) x e = by_test (λ g. found_contained test ys x g) (test y) refl e
    where
      by_test : (find test ys ≡ Some x → Contains ys x × (test x ≡ true)) → (t : Bool) → test y ≡ t → cond t (Some y) (find test ys) ≡ Some x → Contains (y ∷ ys) x × (test x ≡ true)
      by_test ih true f e = let same : y ≡ x = (subst (λ o. elim o as (λ z. Type 0) [ None ↦ Unit {0} | Some z ↦ z ≡ x ]) (sym e) refl) in
          subst (λ z. Contains (y ∷ ys) z × (test z ≡ true)) same (first y ys, f)
      by_test ih false f e = let (c, g) = ih e in (later y ys x c, g)

-- what gets kinds is a place
pub place_of : {b : Block} {p q : ℕ} {ks : Kinds} → Gets b p q ks → (i : Ins) × (b.at q ≡ Some i)
place_of (places.start i e) = (i, e)
place_of (places.onward g l c i e) = (i, e)

-- a way on, to a place that gets its kinds
pub record Way (b : Block) (from to : ℕ) (ks : Kinds) (kept : ℕ) : Type 0 where
  pub gets : Gets b b.size to ks
  pub goes : Goes b b.size from to kept

module _ (b : Block) (fits : Fits b) (q : ℕ) (i : Ins) (ks : Kinds) (reached : Reached b b.size q i ks) where
  abbrev e : Effect
  e = effect b.links i.instr

  pub enough : has_enough e ks ≡ true
  enough = true_from_ne_false _ (λ f. fits.agrees.enough (A.lacks reached f))

  pub found : finds e ks ≡ true
  found = true_from_ne_false _ (λ f. fits.agrees.kinds (A.lacks reached f))

  pub within : (row : Handler) → Contains i.rows row → is_within e ks row ≡ true
  within row c = true_from_ne_false _ (λ f. fits.agrees.handlers row (A.too_deep reached c f))

  way : (r : ℕ) (ls : Kinds) (k : ℕ) → Contains (steps_of b.links q ks (Some i)) (step r ls k) → Way b q r ls k
  way r ls k c = arrives (b.at r) refl
    where
      among : Contains (steps b q ks) (step r ls k)
      among = subst (λ o. Contains (steps_of b.links q ks o) (step r ls k)) (sym reached.stands) c

      arrives : (o : Option Ins) → b.at r ≡ o → Way b q r ls k
      arrives (Some j) at = record { gets = places.onward reached.gets reached.low among j at; goes = L.by_row reached among at }
      arrives None at = absurd (fits.agrees.inside (A.goes reached among at))

  by_itself : (r : ℕ) (ls : Kinds) (k : ℕ) → Contains (onward e ks i.next e.gives ++ (aside e ks (target_of i.instr) e.aside ++ again e ks q)) (step r ls k) → Way b q r ls k
  by_itself r ls k c = way r ls k (Contains-append_left (by_instruction e ks q i) (by_handlers e ks i.rows) (step r ls k) (chosen (has_enough e ks) enough))
    where
      chosen : (t : Bool) → t ≡ true → Contains (if t then (onward e ks i.next e.gives ++ (aside e ks (target_of i.instr) e.aside ++ again e ks q)) else []) (step r ls k)
      chosen t f = subst (λ t. Contains (if t then (onward e ks i.next e.gives ++ (aside e ks (target_of i.instr) e.aside ++ again e ks q)) else []) (step r ls k)) (sym f) c

  pub behind : (given : Kinds) → e.gives ≡ Some given
      → Way b q i.next (below e ks ++ given_behind e ks given) (spared e ks + min e.keeps (length (given_behind e ks given)))
  behind given f = by_itself _ _ _ (Contains-append_left (onward e ks i.next e.gives) (aside e ks (target_of i.instr) e.aside ++ again e ks q) _
      (subst (λ o. Contains (onward e ks i.next o) (gives e ks i.next (given_behind e ks given))) (sym f) (first _ [])))

  pub at_target : (t : ℕ) (given : Kinds) → target_of i.instr ≡ Some t → e.aside ≡ Some given → Way b q t (below e ks ++ given) (spared e ks + min e.keeps (length given))
  at_target t given f g = by_itself _ _ _ (Contains-append_right (onward e ks i.next e.gives) (aside e ks (target_of i.instr) e.aside ++ again e ks q) _
      (Contains-append_left (aside e ks (target_of i.instr) e.aside) (again e ks q) _
      (subst (λ o. Contains (aside e ks (target_of i.instr) o) (gives e ks t given)) (sym g)
      (subst (λ o. Contains (aside e ks o (Some given)) (gives e ks t given)) (sym f) (first _ [])))))

  pub stays : e.again ≡ true → Way b q q ks (length ks)
  stays f = by_itself _ _ _ (Contains-append_right (onward e ks i.next e.gives) (aside e ks (target_of i.instr) e.aside ++ again e ks q) _
      (Contains-append_right (aside e ks (target_of i.instr) e.aside) (again e ks q) _
      (subst (λ t. Contains (if t then step q ks (length ks) ∷ [] else []) (step q ks (length ks))) (sym f) (first _ []))))

  landed : (rows : List Handler) (row : Handler) → Contains rows row → is_within e ks row ≡ true → Contains (by_handlers e ks rows) (landing ks row)
  landed [] row (k, l, f) w = absurd (let h : ⊥ = omega (arith, l) in h)
  landed (r ∷ rows) row (zero, l, f) w = subst (λ t. Contains (map (landing ks) (cond t (r ∷ filter (is_within e ks) rows) (filter (is_within e ks) rows))) (landing ks row))
      (sym (ap (is_within e ks) f ∙ w)) (subst (λ r. Contains (landing ks r ∷ by_handlers e ks rows) (landing ks row)) (sym f) (first _ _))
  landed (r ∷ rows) row (suc k, l, f) w = by_test (landed rows row (k, (omega (arith, l)), f) w) (is_within e ks r)
    where
      by_test : Contains (by_handlers e ks rows) (landing ks row) → (t : Bool) → Contains (map (landing ks) (cond t (r ∷ filter (is_within e ks) rows) (filter (is_within e ks) rows))) (landing ks row)
      by_test c true = later _ _ _ c
      by_test c false = c

  pub at_handler : (row : Handler) → Contains i.rows row → Way b q row.target.0 (cut row ks ++ held_by row ∷ []) row.depth
  at_handler row c = way _ _ _ (Contains-append_right (by_instruction e ks q i) (by_handlers e ks i.rows) (landing ks row) (landed i.rows row c (within row c)))

-- a Leave that a slot holds stands somewhere, and so its target gets kinds
module _ (b : Block) (fits : Fits b) where
  mutual
    pub departs_arrive : {t q : ℕ} {rows : List Handler} {ks : Kinds} → Departs b b.size t q rows ks → Arrives b t
    departs_arrive {t = t} (L.leaves {q = q} {i = i} {ks = ks} r e) = fits.arrives q i ks r t e
    departs_arrive (L.let_go r e h) = holds_arrive h

    pub holds_arrive : {t q d : ℕ} → Holds b b.size t q d → Arrives b t
    holds_arrive (L.caught c row e) = departs_arrive c
    holds_arrive (L.exited r e h) = holds_arrive h
    holds_arrive (L.shared c h) = holds_arrive h

  -- of the slots where a Leave goes on its target has the lowest
  pub target_fits : {t : ℕ} {ks ls : Kinds} → Leaving b b.size t ks → Gets b b.size t ls → (length ls ≤ length ks) × (is_prefix ls ks ≡ true)
  target_fits {ks = ks} {ls = ls} l g =
      (leb-true (length ls) (length ks) (true_from_ne_false _ (λ f. fits.agrees.enough (A.leaves l g f))), true_from_ne_false _ (λ f. fits.agrees.kinds (A.leaves l g f)))
