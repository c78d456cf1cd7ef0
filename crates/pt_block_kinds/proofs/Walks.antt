-- What comes to the vertices of a block's graph: to a place the kinds that it gets, and to a row its cuts.
use Rattle.std.proofs.Common.{◌≡◌, ℕ, ◌+◌, ◌-◌, ◌<◌, ◌≤◌, zero, suc, Bool, true, false, List, [], ◌∷◌, ◌++◌, length, filter, take, Option, Some, None, refl, sym, ap, ◌∙◌, subst, arith, inl, inr}
use Rattle.std.specs.Prelude.{nat_le, nat_lt, cond, Contains, slice_get}
use Rattle.std.proofs.lemmas.Bool.{leb-true, le-leb}
use Rattle.std.proofs.lemmas.List.Elements.{Contains-append_left, Contains-append_right, Contains-append_cases}
use Rattle.std.proofs.lemmas.Option.{same_Some}
use Rattle.pt_instr.specs.declared.effects.Effect.{Effect}
use Rattle.pt_instr.specs.Effects.{Kinds}
use Rattle.pt_ranges.specs.declared.handlers.Handler.{Handler}
use Rattle.pt_ranges.specs.Rows.{covers}
use Rattle.pt_code.specs.View.{Ins}
use Rattle.pt_places.specs.PlaceTable.{place_at}
use Rattle.pt_sizes.specs.Flow.{entry}
use Rattle.pt_sizes.specs.Waiting.{Level, up, stretch}
use Rattle.pt_step_graph.specs.Graph.{width}
use Rattle.pt_step_graph.proofs.Numbers.{lt_true, lt_false, none_in, only_one, the_one, number, level_at, number_first, number_in, up_le}
use Rattle.sem_fits.specs.fits.Block.{Block, effect}
use Rattle.sem_fits.specs.fits.Steps.{Step, step, steps, steps_of, spared, is_within, cut, landing, held_by, by_instruction, by_handlers, target_of}
use Rattle.sem_fits.specs.fits.Places as P
use Rattle.sem_fits.specs.fits.Places.{Gets, Reached}
use Rattle.pt_verify_depths.specs.Sizes as S
use Rattle.pt_verify_depths.specs.Sizes.{left, leaves_enough, RowTooDeep}
use Rattle.pt_verify_depths.proofs.SizeLemmas.{kinds_have_sizes}
use Rattle.pt_kind_flow.specs.Flow as F
use Rattle.pt_kind_flow.specs.Flow.{led_by, Graph, edges_at, Comes}
use Rattle.pt_block_kinds.specs.Leads.{Lead, lead, lead_of, led_along, inside, own_leads, place_leads, leads_from, numbered, row_lead, stretch_leads, landing_leads, leads_at}
use Rattle.pt_block_kinds.specs.Graph.{HasSizes, IsSeen, IsGraph}
use Rattle.pt_block_kinds.specs.Laws.{IsCut}
use Rattle.pt_block_kinds.proofs.Lists.{map_has, in_map, in_filter, filter_has, in_inside, inside_has, with_number, in_numbered, numbered_has, got_in, has_number, below_or, led_cut, led_given, take_shorter, take_long}
use Rattle.pt_block_kinds.proofs.Stretches.{leads_of_stretch, stretch_has}
use Rattle.pt_block_kinds.proofs.Along.{Along, steps_along, leads_step}

level_in : (ls : List Level) (k v : ℕ) (row : Handler) → Contains (stretch ls k v) row → k < length ls
level_in [] k v row c = absurd (none_in row c)
level_in (l ∷ ls) zero v row c = omega arith
level_in (l ∷ ls) (suc k) v row c = omega (arith, level_in ls k v row c)

module _ (b : Block) (p : ℕ) (T : List (Option ℕ)) (levels : List Level) (g : Graph) (is : IsGraph b p T levels g)
    (seen : IsSeen b (length T)) (sizes : HasSizes b p T) where
  abbrev n : ℕ
  n = length T

  abbrev base : ℕ
  base = n + width levels

  abbrev leads : ℕ → List Lead
  leads v = leads_at b p T levels is.deepest v

  -- the vertex of the stretch of a level in which a place lies
  abbrev vertex : (k q : ℕ) → ℕ
  vertex k q = n + number levels k (up k q)

  along : (v : ℕ) (ks : Kinds) (l : Lead) → Comes g v ks → Contains (leads v) l → Comes g l.to (led_along l ks)
  along v ks l c m = let (e, (k, f)) = in_map lead_of (edges_at g.edges v) l (subst (λ xs. Contains xs l) (sym (is.leads v)) m) in
      subst (λ x. Comes g x.to (led_along x ks)) f (F.goes c k)

  abbrev at_other : ℕ → List Lead
  at_other v = cond (nat_lt v base) (stretch_leads base is.deepest n levels (v - n)) (landing_leads n (slice_get b.handlers (v - base)))

  at_place : (v : ℕ) → v < n → leads v ≡ leads_from n base b.links p v (place_at (b.at v)) (entry T v)
  at_place v lt = ap (λ t. cond t (leads_from n base b.links p v (place_at (b.at v)) (entry T v)) (at_other v)) (lt_true v n lt)

  at_stretch : (v i : ℕ) → v ≡ n + i → i < width levels → leads v ≡ stretch_leads base is.deepest n levels i
  at_stretch v i e lt = ap (λ t. cond t (leads_from n base b.links p v (place_at (b.at v)) (entry T v)) (at_other v)) (lt_false v n (omega (arith, e)))
      ∙ (ap (λ t. cond t (stretch_leads base is.deepest n levels (v - n)) (landing_leads n (slice_get b.handlers (v - base)))) (lt_true v base (omega (arith, e, lt)))
      ∙ ap (λ k. stretch_leads base is.deepest n levels k) (let f : v - n ≡ i = omega (arith, e) in f))

  at_row : (v j : ℕ) → v ≡ base + j → leads v ≡ landing_leads n (slice_get b.handlers j)
  at_row v j e = ap (λ t. cond t (leads_from n base b.links p v (place_at (b.at v)) (entry T v)) (at_other v)) (lt_false v n (omega (arith, e)))
      ∙ (ap (λ t. cond t (stretch_leads base is.deepest n levels (v - n)) (landing_leads n (slice_get b.handlers (v - base)))) (lt_false v base (omega (arith, e)))
      ∙ ap (λ k. landing_leads n (slice_get b.handlers k)) (let f : v - base ≡ j = omega (arith, e) in f))

  some_levels : (q : ℕ) → n + q < base → 0 < length levels
  some_levels q lt = by levels (omega (arith, lt))
    where
      by : (ls : List Level) → q < width ls → 0 < length ls
      by [] h = absurd (omega (arith, h))
      by (l ∷ ls) h = omega arith

  in_level : (k q : ℕ) → q < n → k < length levels → up k q < length (level_at levels k)
  in_level k q lt h = let a : up k n < length (level_at levels k) = is.laid.wide k h in let c = up_le k q n (omega arith) in omega (arith, a, c)

  in_width : (k q : ℕ) → q < n → k < length levels → number levels k (up k q) < width levels
  in_width k q lt h = number_in levels k (up k q) h (in_level k q lt h)

  stretch_at : (k q : ℕ) → q < n → k < length levels → leads (vertex k q) ≡ stretch_leads base is.deepest n levels (number levels k (up k q))
  stretch_at k q lt h = at_stretch (vertex k q) (number levels k (up k q)) refl (in_width k q lt h)

  -- an instruction whose place gets kinds
  module _ (q : ℕ) (i : Ins) (ls : Kinds) (r : Reached b p q i ls) where
    abbrev e : Effect
    e = effect b.links i.instr

    pub in_n : q < n
    in_n = seen.below q i r.stands

    size_is : entry T q ≡ Some (length ls)
    size_is = sizes.whole q (length ls) (kinds_have_sizes b p q ls r.gets)

    leads_here : leads q ≡ place_leads n base e (length ls) q i.next (target_of i.instr)
    leads_here = at_place q in_n ∙ (ap (λ o. leads_from n base b.links p q (place_at o) (entry T q)) r.stands ∙ (ap (λ o. leads_from n base b.links p q (place_at (Some i)) o) size_is
        ∙ ap (λ t. cond t (place_leads n base e (length ls) q i.next (target_of i.instr)) []) (le-leb q p r.low)))

    -- the lowest slots are those of the place, as far as rows need them
    abbrev Low : Kinds → Type 0
    Low x = (d : ℕ) → d ≤ spared e ls → d ≤ is.deepest → (take d x ≡ take d ls) × (d ≤ length x)

    low_first : Low (led_by (left e (length ls)) [] false ls)
    low_first d h k = subst (λ x. (take d x ≡ take d ls) × (d ≤ length x)) (sym (led_cut (spared e ls) ls))
        (take_shorter d (spared e ls) ls h, take_long d (spared e ls) ls h (omega (arith, h)))

    low_above : (x : Kinds) → Low x → Low (led_by is.deepest [] false x)
    low_above x low d h k = let r = low d h k in subst (λ x. (take d x ≡ take d ls) × (d ≤ length x)) (sym (led_cut is.deepest x))
        (take_shorter d is.deepest x k ∙ r.0, take_long d is.deepest x k r.1)

    to_stretch : (k : ℕ) → k < length levels → (x : Kinds) × (Comes g q ls → Comes g (vertex k q) x × Low x)
    to_stretch zero h =
        let l = lead (n + q) (left e (length ls)) [] false in
        let f : n + q ≡ vertex 0 q = ap (λ i. n + i) (sym (number_first levels q)) in (
          led_along l ls,
          λ c. (
            subst (λ v. Comes g v (led_along l ls)) f (along q ls l c (subst (λ xs. Contains xs l) (sym leads_here)
                (Contains-append_right (inside n (own_leads e (length ls) q i.next (target_of i.instr))) (inside base (l ∷ [])) l
                (inside_has base (l ∷ []) l (the_one l) (let w = in_width zero q in_n h in omega (arith, f, w)))))),
            low_first,
          ),
        )
    to_stretch (suc k) h =
        let h' : k < length levels = omega arith in
        let (x, rest) = to_stretch k h' in
        let l = lead (vertex (suc k) q) is.deepest [] false in (
          led_along l x,
          λ c. let (d, low) = rest c in (
            along (vertex k q) x l d (subst (λ xs. Contains xs l) (sym (stretch_at k q in_n h'))
                (stretch_has base is.deepest n levels k (up k q) (number levels k (up k q)) l h' (in_level k q in_n h') refl (inr (h, refl)))),
            low_above x low,
          ),
        )

    rows_here : i.rows ≡ filter (λ row. covers row (record { 0 = q })) b.handlers
    rows_here = seen.rows q i r.stands

    row_covers : (row : Handler) → Contains i.rows row → Contains b.handlers row × (covers row (record { 0 = q }) ≡ true)
    row_covers row c = in_filter (λ row. covers row (record { 0 = q })) b.handlers row (subst (λ rs. Contains rs row) rows_here c)

    under : (row : Handler) → Contains b.handlers row → covers row (record { 0 = q }) ≡ true → Contains i.rows row
    under row c t = subst (λ rs. Contains rs row) (sym rows_here) (filter_has (λ row. covers row (record { 0 = q })) b.handlers row c t)

    -- no row is too deep
    pub row_within : (row : Handler) → Contains i.rows row → is_within e ls row ≡ true
    row_within row c = by (leaves_enough e (length ls) row) refl
      where
        by : (t : Bool) → leaves_enough e (length ls) row ≡ t → t ≡ true
        by true f = refl
        by false f = absurd (sizes.within row (S.deep (kinds_have_sizes b p q ls r.gets) r.low r.stands c f))

    pub depth_within : (row : Handler) → Contains i.rows row → row.depth ≤ spared e ls
    depth_within row c = leb-true row.depth (spared e ls) (row_within row c)

    pub cut_long : (row : Handler) → Contains i.rows row → row.depth ≤ length (cut row ls)
    cut_long row c = let d = depth_within row c in take_long row.depth row.depth ls (omega arith) (omega (arith, d))

    cut_low : (x : Kinds) → Low x → (row : Handler) → Contains i.rows row → led_by row.depth [] false x ≡ cut row ls
    cut_low x low row c = led_cut row.depth x ∙ (low row.depth (depth_within row c) (is.deep row (row_covers row c).0)).0

    pub to_row : Comes g q ls → (j : ℕ) (row : Handler) → slice_get b.handlers j ≡ Some row → Contains i.rows row → Comes g (base + j) (cut row ls)
    to_row come j row s c =
        let numbered_row = with_number j row in
        let z : 0 + j ≡ j = omega arith in
        let among = subst (λ k. Contains (numbered 0 b.handlers) (with_number k row)) z (numbered_has 0 b.handlers j row s) in
        let w = is.laid.wait.whole q numbered_row in_n among (row_covers row c).1 in
        let h : w.level < length levels = level_in levels w.level (up w.level q) numbered_row w.among in
        let (x, rest) = to_stretch w.level h in
        let (d, low) = rest come in
        let l = row_lead base numbered_row in
        subst (Comes g (base + j)) (cut_low x low row c) (along (vertex w.level q) x l d (subst (λ xs. Contains xs l) (sym (stretch_at w.level q in_n h))
        (stretch_has base is.deepest n levels w.level (up w.level q) (number levels w.level (up w.level q)) l h (in_level w.level q in_n h) refl
        (inl (numbered_row, (w.among, refl))))))

    -- what a row gives its target
    landed : (row : Handler) → Contains i.rows row → led_by row.depth (held_by row ∷ []) false (cut row ls) ≡ cut row ls ++ held_by row ∷ []
    landed row c = led_given row.depth (held_by row ∷ []) (cut row ls) (cut_long row c) ∙ ap (λ xs. xs ++ held_by row ∷ []) (take_shorter row.depth row.depth ls (omega arith))

  none_steps : (q : ℕ) (ks : Kinds) (s : Step) → b.at q ≡ None → Contains (steps b q ks) s → ⊥
  none_steps q ks s e c = none_in s (subst (λ o. Contains (steps_of b.links q ks o) s) e c)

  -- a step is what comes along edges
  step_comes : (q : ℕ) (i : Ins) (ks : Kinds) (r : Reached b p q i ks) → Comes g q ks → (s : Step) → Contains (steps b q ks) s → s.to < n → Comes g s.to s.kinds
  step_comes q i ks r come s c lt = elim (Contains-append_cases (by_instruction (effect b.links i.instr) ks q i) (by_handlers (effect b.links i.instr) ks i.rows) s
      (subst (λ o. Contains (steps_of b.links q ks o) s) r.stands c)) [
        | inl d ↦ own (steps_along b q i ks s d)
        | inr d ↦ (let (row, (k, f)) = in_map (landing ks) _ s d in let (under, t) = in_filter (is_within (effect b.links i.instr) ks) i.rows row k in
            subst (λ s. s.to < n → Comes g s.to s.kinds) f (λ lt. by_row row under lt) lt)
      ]
    where
      own : Along b q i ks (own_leads (effect b.links i.instr) (length ks) q i.next (target_of i.instr)) s → Comes g s.to s.kinds
      own a = subst (λ xs. Comes g s.to xs) a.is (subst (λ v. Comes g v (led_along a.lead ks)) a.to (along q ks a.lead come (subst (λ xs. Contains xs a.lead) (sym (leads_here q i ks r))
          (Contains-append_left (inside n (own_leads (effect b.links i.instr) (length ks) q i.next (target_of i.instr))) (inside base (lead (n + q) (left (effect b.links i.instr) (length ks)) [] false ∷ [])) a.lead
          (inside_has n _ a.lead a.among (subst (λ v. v < n) (sym a.to) lt))))))

      by_row : (row : Handler) → Contains i.rows row → row.target.0 < n → Comes g row.target.0 (cut row ks ++ held_by row ∷ [])
      by_row row under lt =
          let (j, s) = has_number b.handlers row (row_covers q i ks r row under).0 in
          let l = lead row.target.0 row.depth (held_by row ∷ []) false in
          subst (Comes g row.target.0) (landed q i ks r row under) (along (base + j) (cut row ks) l (to_row q i ks r come j row s under)
          (subst (λ xs. Contains xs l) (sym (at_row (base + j) j refl ∙ ap (landing_leads n) s)) (inside_has n (l ∷ []) l (the_one l) lt)))

  pub gets_come : {q : ℕ} {ks : Kinds} → Gets b p q ks → Comes g q ks
  gets_come (P.start i e) = subst (Comes g 0) is.first F.start
  gets_come (P.onward {q = q} {r = r} {kept = k} {ks = ks} {ls = ls} gets low c j e) = by (gets_come gets) (b.at q) refl
    where
      by : Comes g q ks → (o : Option Ins) → b.at q ≡ o → Comes g r ls
      by come None f = absurd (none_steps q ks (step r ls k) f c)
      by come (Some i) f = step_comes q i ks (record { gets = gets; low = low; stands = f }) come (step r ls k) c (seen.below r j e)

  -- and back
  pub data At (v : ℕ) (ks : Kinds) : Type 0 where
    on_place : v < n → ((j : Ins) → b.at v ≡ Some j → Gets b p v ks) → At v ks
    in_stretch : (q k : ℕ) {i : Ins} {ls : Kinds} → (r : Reached b p q i ls) → k < length levels → v ≡ vertex k q → Low q i ls r ks → At v ks
    on_row : (q j : ℕ) {i : Ins} {ls : Kinds} → (found : Handler) → Reached b p q i ls → slice_get b.handlers j ≡ Some found → Contains i.rows found → v ≡ base + j
        → ks ≡ cut found ls → At v ks
    nowhere : n ≡ 0 → At v ks

  from_ins : (q : ℕ) (i : Ins) (ks : Kinds) (r : Reached b p q i ks) (l : Lead) → Contains (place_leads n base (effect b.links i.instr) (length ks) q i.next (target_of i.instr)) l
      → At l.to (led_along l ks)
  from_ins q i ks r l c = elim (Contains-append_cases (inside n (own_leads (effect b.links i.instr) (length ks) q i.next (target_of i.instr)))
      (inside base (lead (n + q) (left (effect b.links i.instr) (length ks)) [] false ∷ [])) l c) [
        | inl d ↦ (let (lt, among) = in_inside n _ l d in let s = leads_step b q i ks l among in on_place lt (λ j f. P.onward r.gets r.low (at_ins s.kept s.among) j f))
        | inr d ↦ (let first = lead (n + q) (left (effect b.links i.instr) (length ks)) [] false in let (lt, among) = in_inside base (first ∷ []) l d in let same = only_one first l among in
            subst (λ l. At l.to (led_along l ks)) same
            (in_stretch q 0 r (some_levels q (subst (λ l. l.to < base) (sym same) lt)) (ap (λ i. n + i) (sym (number_first levels q))) (low_first q i ks r)))
      ]
    where
      at_ins : (kept : ℕ) → Contains (by_instruction (effect b.links i.instr) ks q i) (step l.to (led_along l ks) kept) → Contains (steps b q ks) (step l.to (led_along l ks) kept)
      at_ins kept d = subst (λ o. Contains (steps_of b.links q ks o) (step l.to (led_along l ks) kept)) (sym r.stands)
          (Contains-append_left (by_instruction (effect b.links i.instr) ks q i) (by_handlers (effect b.links i.instr) ks i.rows) (step l.to (led_along l ks) kept) d)

  from_place : (v : ℕ) (ks : Kinds) → ((j : Ins) → b.at v ≡ Some j → Gets b p v ks) → (l : Lead) → Contains (leads_from n base b.links p v (place_at (b.at v)) (entry T v)) l → At l.to (led_along l ks)
  from_place v ks h l c = by (b.at v) (entry T v) refl refl c
    where
      by : (o : Option Ins) (m : Option ℕ) → b.at v ≡ o → entry T v ≡ m → Contains (leads_from n base b.links p v (place_at o) m) l → At l.to (led_along l ks)
      by None m f s d = absurd (none_in l d)
      by (Some i) None f s d = absurd (none_in l d)
      by (Some i) (Some m) f s d = by_low (nat_le v p) refl d
        where
          by_low : (t : Bool) → nat_le v p ≡ t → Contains (cond t (place_leads n base (effect b.links i.instr) m v i.next (target_of i.instr)) []) l → At l.to (led_along l ks)
          by_low false u x = absurd (none_in l x)
          by_low true u x =
              let r : Reached b p v i ks = record { gets = h i f; low = leb-true v p u; stands = f } in
              let same : m ≡ length ks = same_Some m (length ks) (sym s ∙ size_is v i ks r) in
              from_ins v i ks r l (subst (λ z. Contains (place_leads n base (effect b.links i.instr) z v i.next (target_of i.instr)) l) same x)

  from_stretch : (q k : ℕ) (i : Ins) (ls x : Kinds) (r : Reached b p q i ls) → k < length levels → Low q i ls r x → (l : Lead)
      → Contains (stretch_leads base is.deepest n levels (number levels k (up k q))) l → At l.to (led_along l x)
  from_stretch q k i ls x r h low l c = elim (leads_of_stretch base is.deepest n levels k (up k q) (number levels k (up k q)) l h (in_level k q (in_n q i ls r) h) refl c) [
    | inl (found, (among, f)) ↦ (let (known, t) = is.laid.wait.known q found (record { level = k; among = among }) in let (j, (row, (s, same))) = in_numbered 0 b.handlers found known in
        subst (λ l. At l.to (led_along l x)) f (subst (λ found. At (base + found.target.0) (led_by found.depth [] false x)) same
        (by_row j row s (subst (λ found. covers found (record { 0 = q }) ≡ true) (sym same) t))))
    | inr (a, f) ↦ subst (λ l. At l.to (led_along l x)) f (in_stretch q (suc k) r a refl (low_above q i ls r x low))
  ]
    where
      by_row : (j : ℕ) (found : Handler) → slice_get b.handlers j ≡ Some found → covers found (record { 0 = q }) ≡ true → At (base + (0 + j)) (led_by found.depth [] false x)
      by_row j found s t = let u = under q i ls r found (got_in b.handlers j found s) t in
          on_row q j found r s u (let z : base + (0 + j) ≡ base + j = omega arith in z) (cut_low q i ls r x low found u)

  from_row : (q j : ℕ) (i : Ins) (ls : Kinds) (found : Handler) (r : Reached b p q i ls) → slice_get b.handlers j ≡ Some found → Contains i.rows found → (l : Lead)
      → Contains (landing_leads n (slice_get b.handlers j)) l → At l.to (led_along l (cut found ls))
  from_row q j i ls found r s u l c = let m = lead found.target.0 found.depth (held_by found ∷ []) false in
      let (lt, d) = in_inside n (m ∷ []) l (subst (λ o. Contains (landing_leads n o) l) s c) in
      on_place lt (subst (λ l. (jj : Ins) → b.at l.to ≡ Some jj → Gets b p l.to (led_along l (cut found ls))) (only_one m l d) lands)
    where
      lands : (jj : Ins) → b.at found.target.0 ≡ Some jj → Gets b p found.target.0 (led_by found.depth (held_by found ∷ []) false (cut found ls))
      lands jj f = subst (Gets b p found.target.0) (sym (landed q i ls r found u)) (P.onward r.gets r.low
          (subst (λ o. Contains (steps_of b.links q ls o) (landing ls found)) (sym r.stands)
          (Contains-append_right (by_instruction (effect b.links i.instr) ls q i) (by_handlers (effect b.links i.instr) ls i.rows) (landing ls found)
          (map_has (landing ls) (filter (is_within (effect b.links i.instr) ls) i.rows) found (filter_has (is_within (effect b.links i.instr) ls) i.rows found u (row_within q i ls r found u))))) jj f)

  from : (v : ℕ) (ks : Kinds) → At v ks → (l : Lead) → Contains (leads v) l → At l.to (led_along l ks)
  from v ks (on_place lt h) l c = from_place v ks h l (subst (λ xs. Contains xs l) (at_place v lt) c)
  from v ks (in_stretch q k {i = i} {ls = ls} r h e low) l c = from_stretch q k i ls ks r h low l
      (subst (λ xs. Contains xs l) (at_stretch v (number levels k (up k q)) e (in_width k q (in_n q i ls r) h)) c)
  from v ks (on_row q j {i = i} {ls = ls} found r s u e f) l c = subst (λ xs. At l.to (led_along l xs)) (sym f)
      (from_row q j i ls found r s u l (subst (λ xs. Contains xs l) (at_row v j e) c))
  from v ks (nowhere e) l c = nowhere e

  pub comes_at : (v : ℕ) (ks : Kinds) → Comes g v ks → At v ks
  comes_at _ _ F.start = elim (below_or 0 n) [
    | inl h ↦ on_place h (λ j f. subst (Gets b p 0) (sym is.first) (P.start j f))
    | inr h ↦ nowhere (omega arith)
  ]
  comes_at _ _ (F.goes {v} {ks} {e} c edge) = from v ks (comes_at v ks c) (lead_of e) (subst (λ xs. Contains xs (lead_of e)) (is.leads v) (map_has lead_of (edges_at g.edges v) e edge))

  pub come_gets : (q : ℕ) (j : Ins) (ks : Kinds) → b.at q ≡ Some j → Comes g q ks → Gets b p q ks
  come_gets q j ks f c = let lt = seen.below q j f in by lt (comes_at q ks c)
    where
      by : q < n → At q ks → Gets b p q ks
      by lt (on_place h k) = k j f
      by lt (in_stretch m k r h e low) = absurd (omega (arith, e, lt))
      by lt (on_row m k found r s u e x) = absurd (omega (arith, e, lt))
      by lt (nowhere e) = absurd (omega (arith, e, lt))

  pub come_cuts : (j : ℕ) (found : Handler) (ks : Kinds) → slice_get b.handlers j ≡ Some found → Comes g (base + j) ks → (0 < n) → IsCut b p found ks
  come_cuts j found ks f c some = by (comes_at (base + j) ks c)
    where
      by : At (base + j) ks → IsCut b p found ks
      by (on_place h k) = absurd (omega arith)
      by (in_stretch q k {i = i} {ls = ls} r h e low) = absurd (let w = in_width k q (in_n q i ls r) h in omega (arith, e, w))
      by (on_row q m {i = i} {ls = ls} other r s u e x) =
          let same : found ≡ other = same_Some found other (sym f ∙ (ap (slice_get b.handlers) (let z : j ≡ m = omega (arith, e) in z) ∙ s)) in
          subst (λ h. IsCut b p h ks) (sym same) (record { pc = q; ins = i; kinds = ls; reached = r; under = u; is = x })
      by (nowhere e) = absurd (omega (arith, e, some))
