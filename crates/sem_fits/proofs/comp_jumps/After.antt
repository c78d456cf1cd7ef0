-- The state behind a permitted jump: the closed parts around the target are the outer ones around the place, and hold the same.
use Rattle.std.proofs.Common.{◌≡◌, ◌⊎◌, inl, inr, ℕ, ◌<◌, Bool, true, false, not, ◌&&◌, ◌||◌, List, [], ◌∷◌, ◌++◌, length, map, Some, refl, sym, ap, subst, ◌∙◌, arith, if◌then◌else◌, append-nil}
use Rattle.std.specs.List.{list_any}
use Rattle.std.proofs.lemmas.List.{length-append, length-map}
use Rattle.pt_tree.specs.Blocks.{Code}
use Rattle.pt_code.specs.declared.Start.{Start}
use Rattle.sem_control.specs.control.Turn.{Around}
use Rattle.sem_control.specs.control.Frames as F
use Rattle.sem_control.specs.control.Frames.{Nest, Way}
use Rattle.sem_control.specs.control.Bases.{way_base}
use Rattle.sem_control.specs.control.Control.{go}
use Rattle.sem_control.specs.control.Jump as jumps
use Rattle.sem_control.specs.control.Jump.{Part, Held, same, is_final, has, kept, parts, holding, Shape, shape, shape_of, Target, Verdict, permitted, no_statement, into_block, out_of_finally, verdict, filled, starts_of, on_line, at_target, by_verdict, by_target, jump, lands}
use Rattle.sem_control.proofs.control.JumpLemmas.{same_part, jump_lands}
use Rattle.sem_code.specs.slots.Slots.{Slots, on}
use Rattle.sem_code.specs.slots.CodeObject.{CodeObject}
use Rattle.sem_code.specs.slots.Landing.{cut}
use Rattle.sem_code.specs.comp.Surroundings.{Surroundings}
use Rattle.sem_code.specs.comp.Law.{Above, Comes}
use Rattle.sem_fits.specs.comp_jumps.Parts.{Lies}
use Rattle.sem_fits.specs.comp_jumps.Filled.{Filled}
use Rattle.sem_fits.specs.comp_jumps.Law.{NoFinally, Landing, Level, JumpsMatch}
use Rattle.sem_fits.proofs.comp_jumps.Verdicts.{same_itself, has_lies, none_lies, of_other, of_not}
use Rattle.sem_fits.proofs.comp_jumps.Cuts.{slots_are_cut}

module _ {V : Type 0} where
  abbrev parts_of : List (Part × Held V) → List Part
  parts_of ks = map (λ k. k.0) ks

  -- a part lies at a slot and holds this
  abbrev At : (d : ℕ) → Part × Held V → List (Part × Held V) → Type 0
  At d k [] = ⊥
  At d k (j ∷ ks) = ((d ≡ length ks) × (k ≡ j)) ⊎ At d k ks

  at_less : (d : ℕ) (k : Part × Held V) (ks : List (Part × Held V)) → At d k ks → d < length ks
  at_less d k [] h = absurd h
  at_less d k (j ∷ ks) (inl h) = let e = h.0 in omega (arith, e)
  at_less d k (j ∷ ks) (inr h) = let l = at_less d k ks h in omega (arith, l)

  at_lies : (d : ℕ) (k : Part × Held V) (ks : List (Part × Held V)) → At d k ks → Lies d k.0 (parts_of ks)
  at_lies d k [] h = absurd h
  at_lies d k (j ∷ ks) (inl h) = inl (h.0 ∙ sym (length-map ks (λ k. k.0)), subst (λ (i : Part × Held V). same k.0 i.0 ≡ true) h.1 (same_itself k.0))
  at_lies d k (j ∷ ks) (inr h) = inr (at_lies d k ks h)

  lies_less : (d : ℕ) (q : Part) (ks : List (Part × Held V)) → Lies d q (parts_of ks) → d < length ks
  lies_less d q [] h = absurd h
  lies_less d q (j ∷ ks) (inl h) = let e : d ≡ length ks = h.0 ∙ length-map ks (λ k. k.0) in omega (arith, e)
  lies_less d q (j ∷ ks) (inr h) = let l = lies_less d q ks h in omega (arith, l)

  -- what a part that is there once holds is found by the part
  at_holding : (d : ℕ) (k : Part × Held V) (ks : List (Part × Held V)) → Level (parts_of ks) (parts_of ks) → At d k ks → holding ks k.0 ≡ Some k.1
  at_holding d k [] u h = absurd h
  at_holding d k (j ∷ ks) u (inl h) =
      let is : same k.0 j.0 ≡ true = subst (λ (i : Part × Held V). same k.0 i.0 ≡ true) h.1 (same_itself k.0) in
      ap (λ b. if b then Some j.1 else holding ks k.0) is ∙ ap (λ (i : Part × Held V). Some i.1) (sym h.1)
  at_holding d k (j ∷ ks) u (inr h) = by_first (same k.0 j.0) refl (at_holding d k ks (λ c e q h g. u c e q (inr h) (inr g)) h)
    where
      by_first : (b : Bool) → same k.0 j.0 ≡ b → holding ks k.0 ≡ Some k.1 → (if b then Some j.1 else holding ks k.0) ≡ Some k.1
      by_first true is r =
          let l = at_less d k ks h in
          let e : length (parts_of ks) ≡ d = u (length (parts_of ks)) d k.0 (inl (refl, is)) (inr (at_lies d k ks h)) in
          let n = length-map ks (λ (k : Part × Held V). k.0) in
          absurd (let x : ⊥ = omega (arith, l, e, n) in x)
      by_first false is r = r

  holding_at : (q : Part) (h : Held V) (ks : List (Part × Held V)) → holding ks q ≡ Some h → (d : ℕ) × At d (q, h) ks
  holding_at q h [] e = absurd cc
  holding_at q h (j ∷ ks) e = by_first (same q j.0) refl (holding_at q h ks) e
    where
      by_first : (b : Bool) → same q j.0 ≡ b → (holding ks q ≡ Some h → (d : ℕ) × At d (q, h) ks) → (if b then Some j.1 else holding ks q) ≡ Some h
          → (d : ℕ) × At d (q, h) (j ∷ ks)
      by_first true is f g =
          let p : q ≡ j.0 = same_part q j.0 is in
          let v : j.1 ≡ h = cc in
          let both : (q, h) ≡ j = ap (λ (r : Part). (r, h)) p ∙ ap (λ (g : Held V). (j.0, g)) (sym v) in
          (length ks, inl (refl, both))
      by_first false is f g = let r = f g in (r.0, inr r.1)

  -- that a list whose elements stand in this one at the same slots is its end
  abbrev Ends_in : List (Part × Held V) → Type 0
  Ends_in ks = (ts : List (Part × Held V)) → ((d : ℕ) (k : Part × Held V) → At d k ts → At d k ks) → (left : List (Part × Held V)) × (ks ≡ left ++ ts)

  not_head : (d : ℕ) (j k : Part × Held V) (ks : List (Part × Held V)) → d < length ks → ((d ≡ length ks) × (j ≡ k)) ⊎ At d j ks → At d j ks
  not_head d j k ks l (inl g) = absurd (let e = g.0 in let x : ⊥ = omega (arith, l, e) in x)
  not_head d j k ks l (inr g) = g

  none_left : (left ks ts : List (Part × Held V)) → length ts ≡ length ks → ks ≡ left ++ ts → ks ≡ ts
  none_left [] ks ts n e = e
  none_left (i ∷ left) ks ts n e = absurd (let m = ap length e in let l = length-append left ts in let x : ⊥ = omega (arith, n, m, l) in x)

  by_head : (k t : Part × Held V) (ks ts : List (Part × Held V)) → Ends_in ks → ((d : ℕ) (j : Part × Held V) → At d j (t ∷ ts) → At d j (k ∷ ks))
      → ((length ts ≡ length ks) × (t ≡ k)) ⊎ At (length ts) t ks → (left : List (Part × Held V)) × (k ∷ ks ≡ left ++ (t ∷ ts))
  by_head k t ks ts rec f (inl h) =
      let n = h.0 in
      let r = rec ts (λ d j a. let l = at_less d j ts a in not_head d j k ks (omega (arith, l, n)) (f d j (inr a))) in
      ([], ap (λ i. i ∷ ks) (sym h.1) ∙ ap (λ js. t ∷ js) (none_left r.0 ks ts n r.1))
  by_head k t ks ts rec f (inr h) =
      let m = at_less (length ts) t ks h in
      let r = rec (t ∷ ts) (λ d j a. let l = at_less d j (t ∷ ts) a in not_head d j k ks (omega (arith, l, m)) (f d j a)) in
      (k ∷ r.0, ap (λ js. k ∷ js) r.1)

  ends_in : (ks : List (Part × Held V)) → Ends_in ks
  ends_in ks [] f = (ks, sym (append-nil ks))
  ends_in [] (t ∷ ts) f = absurd (f (length ts) t (inl (refl, refl)))
  ends_in (k ∷ ks) (t ∷ ts) f = by_head k t ks ts (ends_in ks) f (f (length ts) t (inl (refl, refl)))

  no_final : (left ks ts : List (Part × Held V)) → ks ≡ left ++ ts → ((d : ℕ) (q : Part) → Lies d q (parts_of ks) → is_final q ≡ true → d < length ts) → NoFinally left
  no_final [] ks ts e f = refl
  no_final (k ∷ left) ks ts e f =
      by_first (is_final k.0) refl (no_final left (left ++ ts) ts refl (λ d q h. f d q (subst (λ js. Lies d q (parts_of js)) (sym e) (inr h))))
    where
      by_first : (b : Bool) → is_final k.0 ≡ b → NoFinally left → (b || list_any (λ k. is_final k.0) left) ≡ false
      by_first true is r =
          let here : Lies (length (left ++ ts)) k.0 (parts_of ks) =
          subst (λ js. Lies (length (left ++ ts)) k.0 (parts_of js)) (sym e) (inl (sym (length-map (left ++ ts) (λ k. k.0)), same_itself k.0)) in
          let l = f (length (left ++ ts)) k.0 here is in
          let n = length-append left ts in
          absurd (let x : ⊥ = omega (arith, l, n) in x)
      by_first false is r = r

  -- a nest and its shape lie in the same parts
  shape_parts : (s : Nest V) → parts (shape s) ≡ parts s
  shape_parts [] = refl
  shape_parts (F.rest n ss ∷ s) = shape_parts s
  shape_parts (F.looping l n c body els ∷ s) = shape_parts s
  shape_parts (F.iterating l n i t body els ∷ s) = ap (λ ps. jumps.for_part n ∷ ps) (shape_parts s)
  shape_parts (F.guarded n hs els ∷ s) = shape_parts s
  shape_parts (F.testing n e ∷ s) = ap (λ ps. jumps.tests_part n ∷ ps) (shape_parts s)
  shape_parts (F.handling n e ∷ s) = ap (λ ps. jumps.handler_part n ∷ ps) (shape_parts s)
  shape_parts (F.naming x ∷ s) = shape_parts s
  shape_parts (F.ensuring t n fin ∷ s) = shape_parts s
  shape_parts (F.ending t held ∷ s) = ap (λ ps. jumps.finally_part t ∷ ps) (shape_parts s)
  shape_parts (F.withing l n w ∷ s) = ap (λ ps. jumps.with_part n ∷ ps) (shape_parts s)
  shape_parts (F.exiting n w held ∷ s) = ap (λ ps. jumps.exit_part n ∷ ps) (shape_parts s)

  -- the closed parts around the target of a permitted jump are the outer ones around the place, and no `finally` part is left
  outer_parts : (place s : Nest V) → list_any (λ q. is_final q && not (has (parts s) q)) (parts place) ≡ false
      → Level (parts place) (parts place) → Level (parts place) (parts s) → Level (parts s) (parts s)
      → ((q : Part) (h : Held V) → holding (kept s) q ≡ Some h → holding (kept place) q ≡ Some h)
      → (left : List (Part × Held V)) × (kept place ≡ left ++ kept s) × NoFinally left
  outer_parts place s held up us ut keeps =
      let r = ends_in (kept place) (kept s) moved in
      (r.0, r.1, no_final r.0 (kept place) (kept s) r.1 low)
    where
      moved : (d : ℕ) (k : Part × Held V) → At d k (kept s) → At d k (kept place)
      moved d k a =
          let r = holding_at k.0 k.1 (kept place) (keeps k.0 k.1 (at_holding d k (kept s) ut a)) in
          subst (λ e. At e k (kept place)) (us r.0 d k.0 (at_lies r.0 k (kept place) r.1) (at_lies d k (kept s) a)) r.1

      low : (d : ℕ) (q : Part) → Lies d q (parts place) → is_final q ≡ true → d < length (kept s)
      low d q h f =
          let r = has_lies (parts s) q (of_other _ _ (none_lies (λ q. is_final q && not (has (parts s) q)) (parts place) held d q h) f) in
          let e : d ≡ r.0 = us d r.0 q h r.1 in
          let l = lies_less r.0 q (kept s) r.1 in
          omega (arith, e, l)

judged : (a b c : Bool) → (if a || b then out_of_finally else if c then into_block else permitted) ≡ permitted → (a ≡ false) × (c ≡ false)
judged true b c e = absurd cc
judged false true c e = absurd cc
judged false false true e = absurd cc
judged false false false e = (refl, refl)

module _ {V : Type 0} (block : Around V) (code : CodeObject V) where
  -- the slots of the place, cut, are those of the target's nest, where what the left parts hold is no completion
  pub record Cut_at (t : Target) (place : Nest V) (xs : List Surroundings) (τ : Slots V) (r : jumps.Landing t place) : Type 0 where
    pub left : List (Part × Held V)
    pub outer : kept place ≡ left ++ kept r.nest
    pub no_finally : NoFinally left
    pub same_parts : parts t.within ≡ parts r.nest
    pub fills : Filled code t.within xs r.nest (cut (length (parts t.within)) τ)

  pub cut_at : (t : Target) (sh : Shape) (xs : List Surroundings) (place : Nest V) (σ τ : Slots V) (r : jumps.Landing t place) → Filled code sh xs place σ → Above σ τ
      → Level (parts place) (parts place) → Level (parts place) (parts t.within) → verdict (parts place) (parts t.within) ≡ permitted → Cut_at t place xs τ r
  cut_at t sh xs place σ τ r f a up us ok =
      let sp : parts t.within ≡ parts r.nest = ap parts (sym r.shaped) ∙ shape_parts r.nest in
      let v = judged _ _ _ ok in
      let held = subst (λ ps. list_any (λ q. is_final q && not (has ps q)) (parts place) ≡ false) sp v.0 in
      let us' : Level (parts place) (parts r.nest) = subst (λ ps. Level (parts place) ps) sp us in
      let all = subst (λ ps. list_any (λ q. not (has (parts place) q)) ps ≡ false) sp v.1 in
      let ut : Level (parts r.nest) (parts r.nest) = λ d e q h g.
      let p = has_lies (parts place) q (of_not _ (none_lies (λ q. not (has (parts place) q)) (parts r.nest) all d q h)) in
      sym (us' p.0 d q p.1 h) ∙ us' p.0 e q p.1 g in
      let o = outer_parts place r.nest held up us' ut r.keeps in
      let cuts : Filled code (shape r.nest) xs r.nest (cut (length (kept r.nest)) τ) = slots_are_cut code sh xs place r.nest σ τ f a o.0 o.1 o.2 in
      let n : length (kept r.nest) ≡ length (parts t.within) = sym (length-map (kept r.nest) (λ k. k.0)) ∙ ap length (sym sp) in
      record {
        left = o.0;
        outer = o.1;
        no_finally = o.2;
        same_parts = sp;
        fills = subst (λ d. Filled code t.within xs r.nest (cut d τ)) n (subst (λ h. Filled code h xs r.nest (cut (length (kept r.nest)) τ)) r.shaped cuts);
      }

  landed : (c : Code) (table : List Start) (sh : Shape) (xs : List Surroundings) (place : Nest V) (σ τ : Slots V) (line : ℕ) (k : Way V)
      → (l : Landing block code c table line k) → xs ≡ l.stands.endings → Filled code sh xs place σ → Above σ τ
      → Level (parts place) (parts place) → Level (parts place) (parts l.target.within) → verdict (parts place) (parts l.target.within) ≡ permitted
      → at_target l.target (filled l.target.within (kept place)) ≡ lands k
      → Comes block code (go block k) (on l.stands.place (cut (length (parts l.target.within)) τ))
  landed c table sh xs place σ τ line k l same_endings f a up us ok e =
      let t = l.target in
      let r = jump_lands c line place t l.first ok in
      let is : F.stms t.n t.ss r.nest ≡ k = let x : lands (F.stms t.n t.ss r.nest) ≡ lands k = ap (at_target t) (sym r.filled_so) ∙ e in cc in
      let shaped = (cut_at t sh xs place σ τ r f a up us ok).fills in
      let ended : Filled code t.within l.stands.endings r.nest (cut (length (parts t.within)) τ) =
      subst (λ ys. Filled code t.within ys r.nest (cut (length (parts t.within)) τ)) same_endings shaped in
      l.comes _ (subst (λ (w : Way V). Filled code t.within l.stands.endings (way_base w) (cut (length (parts t.within)) τ)) is ended)

  by_its_verdict : (c : Code) (table : List Start) (sh : Shape) (xs : List Surroundings) (place : Nest V) (σ τ : Slots V) (line : ℕ) (k : Way V)
      → (l : Landing block code c table line k) → xs ≡ l.stands.endings → Filled code sh xs place σ → Above σ τ
      → Level (parts place) (parts place) → Level (parts place) (parts l.target.within)
      → (v : Verdict) → verdict (parts place) (parts l.target.within) ≡ v → by_verdict v l.target place ≡ lands k
      → Comes block code (go block k) (on l.stands.place (cut (length (parts l.target.within)) τ))
  by_its_verdict c table sh xs place σ τ line k l x f a up us permitted ok e = landed c table sh xs place σ τ line k l x f a up us ok e
  by_its_verdict c table sh xs place σ τ line k l x f a up us no_statement ok e = absurd cc
  by_its_verdict c table sh xs place σ τ line k l x f a up us into_block ok e = absurd cc
  by_its_verdict c table sh xs place σ τ line k l x f a up us out_of_finally ok e = absurd cc

pub jumps_match : {V : Type 0} (block : Around V) (code : CodeObject V) → JumpsMatch block code
jumps_match block code c table sh xs place σ τ line k e l same f a up us =
    by_its_verdict block code c table sh xs place σ τ line k l (sym same) f a up us (verdict (parts place) (parts l.target.within)) refl
    (subst (λ o. by_target o place ≡ lands k) l.first e)
