-- What comes to the vertices of a block's graph: to a place the kinds that it gets, and to a row the cuts of places that have enough for it.
use Rattle.std.proofs.Common.{◌≡◌, ℕ, ◌+◌, ◌-◌, ◌<◌, ◌≤◌, zero, suc, Bool, true, false, List, [], ◌∷◌, ◌++◌, length, filter, take, Option, Some, None, refl, sym, ap, ◌∙◌, subst, arith, inl, inr}
use Rattle.std.specs.Prelude.{nat_le, nat_lt, nat_eq, cond, Contains, slice_get}
use Rattle.std.proofs.lemmas.Bool.{leb-true, le-leb}
use Rattle.std.proofs.lemmas.Bool.Decides.{nat_tests}
use Rattle.std.proofs.lemmas.List.{length-map}
use Rattle.std.proofs.lemmas.List.Elements.{Contains-append_left, Contains-append_right, Contains-append_cases}
use Rattle.std.proofs.lemmas.Option.{same_Some, slice_get_within}
use Rattle.pt_instr.specs.declared.effects.Effect.{Effect}
use Rattle.pt_instr.specs.Effects.{Kinds}
use Rattle.pt_ranges.specs.declared.handlers.Handler.{Handler}
use Rattle.pt_ranges.specs.Rows.{covers}
use Rattle.pt_code.specs.View.{Ins}
use Rattle.pt_places.specs.PlaceTable.{place_at}
use Rattle.pt_sizes.specs.Flow.{entry}
use Rattle.pt_sizes.specs.Waiting.{Level, level_of, levels_of, up, stretch}
use Rattle.pt_step_graph.proofs.Numbers.{lt_true, lt_false, is_lt, none_in, only_one, the_one, later}
use Rattle.sem_fits.specs.fits.Block.{Block, effect}
use Rattle.sem_fits.specs.fits.Steps.{Step, step, steps, steps_of, spared, is_within, cut, landing, held_by, by_instruction, by_handlers, target_of}
use Rattle.sem_fits.specs.fits.Places as P
use Rattle.sem_fits.specs.fits.Places.{Gets, Reached}
use Rattle.pt_verify_depths.specs.Sizes.{Sized, left}
use Rattle.pt_verify_depths.proofs.SizeLemmas.{kinds_have_sizes}
use Rattle.pt_kind_flow.specs.Flow as F
use Rattle.pt_kind_flow.specs.Flow.{led_by, Graph, edges_at, Comes}
use Rattle.pt_block_kinds.specs.Leads.{Lead, lead, lead_of, led_along, inside, own_leads, numbered, landing_leads}
use Rattle.pt_block_kinds.specs.Graph.{IsSeen}
use Rattle.pt_block_kinds.proofs.Lists.{map_has, in_map, in_filter, filter_has, in_inside, inside_has, with_number, in_numbered, numbered_has, got_in, has_number, below_or, earlier, led_cut, led_given, take_shorter, take_long}
use Rattle.pt_block_kinds.proofs.Along.{Along, steps_along, leads_step}
use Rattle.pt_cut_failures.specs.declared.chains.Chains.{Chains}
use Rattle.pt_cut_failures.specs.Chains.{first_within, link_of, start_at, starts_of}
use Rattle.pt_cut_failures.specs.Leads.{enter_leads, entering, chain_leads, place_leads, leads_from, link_leads, leads_at}
use Rattle.pt_cut_failures.specs.Graph.{IsGraph, IsLanding}
use Rattle.pt_cut_failures.proofs.Chaining.{first_before, stands_first, later_within}

level_in : (ls : List Level) (k v : ℕ) (row : Handler) → Contains (stretch ls k v) row → k < length ls
level_in [] k v row c = absurd (none_in row c)
level_in (l ∷ ls) zero v row c = omega arith
level_in (l ∷ ls) (suc k) v row c = omega (arith, level_in ls k v row c)

got_at : {X : Type 0} (xs : List X) (j : ℕ) → j < length xs → (x : X) × (slice_get xs j ≡ Some x)
got_at [] j h = absurd (omega (arith, h))
got_at (x ∷ xs) zero h = (x, refl)
got_at (x ∷ xs) (suc j) h = got_at xs j (omega (arith, h))

-- the leads into chains

module _ (base : ℕ) (levels : List Level) (starts : List (List ℕ)) (pc below : ℕ) where
  abbrev into : (k : ℕ) → List Lead
  into k = enter_leads base (stretch levels k (up k pc)) (start_at starts k (up k pc)) below

  in_entering : (count : ℕ) (l : Lead) → Contains (entering base levels starts pc below count) l → (k : ℕ) × ((k < count) × Contains (into k) l)
  in_entering zero l c = absurd (none_in l c)
  in_entering (suc count) l c = elim (Contains-append_cases (entering base levels starts pc below count) (into count) l c) [
    | inl d ↦ (let (k, (lt, e)) = in_entering count l d in (k, (omega (arith, lt), e)))
    | inr d ↦ (count, (omega arith, d))
  ]

  has_entering : (count k : ℕ) (l : Lead) → k < count → Contains (into k) l → Contains (entering base levels starts pc below count) l
  has_entering zero k l lt c = absurd (omega (arith, lt))
  has_entering (suc count) k l lt c = elim (below_or k count) [
    | inl h ↦ Contains-append_left (entering base levels starts pc below count) (into count) l (has_entering count k l h c)
    | inr h ↦ Contains-append_right (entering base levels starts pc below count) (into count) l (let same : k ≡ count = omega (arith, h, lt) in subst (λ m. Contains (into m) l) same c)
  ]

  -- what leads into a chain leads to the first row that leaves no more slots
  pub in_chains : (count : ℕ) (l : Lead) → Contains (entering base levels starts pc below count) l
      → (k : ℕ) × ((first_within (stretch levels k (up k pc)) below < length (stretch levels k (up k pc)))
      × (lead (base + (start_at starts k (up k pc) + first_within (stretch levels k (up k pc)) below)) below [] false ≡ l))
  in_chains count l c = let (k, (lt, d)) = in_entering count l c in (k, by k (nat_lt (first_within (stretch levels k (up k pc)) below) (length (stretch levels k (up k pc)))) refl d)
    where
      by : (k : ℕ) (t : Bool) → nat_lt (first_within (stretch levels k (up k pc)) below) (length (stretch levels k (up k pc))) ≡ t
          → Contains (cond t (lead (base + (start_at starts k (up k pc) + first_within (stretch levels k (up k pc)) below)) below [] false ∷ []) []) l
          → (first_within (stretch levels k (up k pc)) below < length (stretch levels k (up k pc)))
          × (lead (base + (start_at starts k (up k pc) + first_within (stretch levels k (up k pc)) below)) below [] false ≡ l)
      by k true f d = (is_lt _ _ f, only_one (lead (base + (start_at starts k (up k pc) + first_within (stretch levels k (up k pc)) below)) below [] false) l d)
      by k false f d = absurd (none_in l d)

  pub has_chains : (count k : ℕ) → k < count → first_within (stretch levels k (up k pc)) below < length (stretch levels k (up k pc))
      → Contains (entering base levels starts pc below count) (lead (base + (start_at starts k (up k pc) + first_within (stretch levels k (up k pc)) below)) below [] false)
  has_chains count k lt h = let l = lead (base + (start_at starts k (up k pc) + first_within (stretch levels k (up k pc)) below)) below [] false in
      has_entering count k l lt (subst (λ t. Contains (cond t (l ∷ []) []) l) (sym (lt_true (first_within (stretch levels k (up k pc)) below) (length (stretch levels k (up k pc))) h)) (the_one l))

module _ (b : Block) (p : ℕ) (T : List (Option ℕ)) (c : Chains) (g : Graph) (is : IsGraph b p T c g)
    (seen : IsSeen b (length T)) (whole : (q m : ℕ) → Sized b p q m → entry T q ≡ Some m) where
  abbrev n : ℕ
  n = length T

  abbrev base : ℕ
  base = n + length b.handlers

  abbrev levels : List Level
  levels = levels_of c.waiting.levels

  abbrev starts : List (List ℕ)
  starts = starts_of c.starts

  abbrev height : ℕ
  height = length c.waiting.levels.items

  abbrev leads : ℕ → List Lead
  leads v = leads_at b p T c v

  along : (v : ℕ) (ks : Kinds) (l : Lead) → Comes g v ks → Contains (leads v) l → Comes g l.to (led_along l ks)
  along v ks l come m = let (e, (k, f)) = in_map lead_of (edges_at g.edges v) l (subst (λ xs. Contains xs l) (sym (is.leads v)) m) in
      subst (λ x. Comes g x.to (led_along x ks)) f (F.goes come k)

  abbrev at_other : ℕ → List Lead
  at_other v = cond (nat_lt v base) (landing_leads n (slice_get b.handlers (v - n))) (link_leads n base (v - base) (slice_get c.links.items (v - base)))

  at_place : (v : ℕ) → v < n → leads v ≡ leads_from n base c b.links p v (place_at (b.at v)) (entry T v)
  at_place v lt = ap (λ t. cond t (leads_from n base c b.links p v (place_at (b.at v)) (entry T v)) (at_other v)) (lt_true v n lt)

  at_row : (v j : ℕ) → v ≡ n + j → j < length b.handlers → leads v ≡ landing_leads n (slice_get b.handlers j)
  at_row v j e lt = ap (λ t. cond t (leads_from n base c b.links p v (place_at (b.at v)) (entry T v)) (at_other v)) (lt_false v n (omega (arith, e)))
      ∙ (ap (λ t. cond t (landing_leads n (slice_get b.handlers (v - n))) (link_leads n base (v - base) (slice_get c.links.items (v - base)))) (lt_true v base (omega (arith, e, lt)))
      ∙ ap (λ k. landing_leads n (slice_get b.handlers k)) (let f : v - n ≡ j = omega (arith, e) in f))

  at_link : (v j : ℕ) → v ≡ base + j → leads v ≡ link_leads n base j (slice_get c.links.items j)
  at_link v j e = ap (λ t. cond t (leads_from n base c b.links p v (place_at (b.at v)) (entry T v)) (at_other v)) (lt_false v n (omega (arith, e)))
      ∙ (ap (λ t. cond t (landing_leads n (slice_get b.handlers (v - n))) (link_leads n base (v - base) (slice_get c.links.items (v - base)))) (lt_false v base (omega (arith, e)))
      ∙ ap (λ k. link_leads n base k (slice_get c.links.items k)) (let f : v - base ≡ j = omega (arith, e) in f))

  -- an instruction whose place gets kinds
  module _ (q : ℕ) (i : Ins) (ls : Kinds) (r : Reached b p q i ls) where
    abbrev e : Effect
    e = effect b.links i.instr

    pub in_n : q < n
    in_n = seen.below q i r.stands

    size_is : entry T q ≡ Some (length ls)
    size_is = whole q (length ls) (kinds_have_sizes b p q ls r.gets)

    leads_here : leads q ≡ place_leads n base c e (length ls) q i.next (target_of i.instr)
    leads_here = at_place q in_n ∙ (ap (λ o. leads_from n base c b.links p q (place_at o) (entry T q)) r.stands ∙ (ap (λ o. leads_from n base c b.links p q (place_at (Some i)) o) size_is
        ∙ ap (λ t. cond t (place_leads n base c e (length ls) q i.next (target_of i.instr)) []) (le-leb q p r.low)))

    -- the lowest slots are those of the place
    abbrev Low : (most : ℕ) → Kinds → Type 0
    Low most x = (d : ℕ) → d ≤ most → (take d x ≡ take d ls) × (d ≤ length x)

    low_first : (most : ℕ) → most ≤ spared e ls → Low most (led_by (left e (length ls)) [] false ls)
    low_first most h d k = subst (λ x. (take d x ≡ take d ls) × (d ≤ length x)) (sym (led_cut (spared e ls) ls))
        (take_shorter d (spared e ls) ls (omega (arith, h, k)), take_long d (spared e ls) ls (omega (arith, h, k)) (omega (arith, h, k)))

    low_next : (most next : ℕ) (x : Kinds) → next ≤ most → Low most x → Low next (led_by most [] false x)
    low_next most next x h low d k = let f = low d (omega (arith, h, k)) in subst (λ y. (take d y ≡ take d ls) × (d ≤ length y)) (sym (led_cut most x))
        (take_shorter d most x (omega (arith, h, k)) ∙ f.0, take_long d most x (omega (arith, h, k)) f.1)

    abbrev rows_at : ℕ → List Handler
    rows_at k = stretch levels k (up k q)

    abbrev start : ℕ → ℕ
    start k = start_at starts k (up k q)

    leads_of_link : (k j : ℕ) (row : Handler) → slice_get (rows_at k) j ≡ Some row
        → leads (base + (start k + j)) ≡ link_leads n base (start k + j) (Some (link_of row (nat_eq (j + 1) (length (rows_at k)))))
    leads_of_link k j row s = at_link (base + (start k + j)) (start k + j) refl ∙ ap (link_leads n base (start k + j)) (is.chains.stands k (up k q) j row s)

    abbrev LinkComes : (k j : ℕ) → Handler → Type 0
    LinkComes k j row = (x : Kinds) × (Comes g (base + (start k + j)) x × Low row.depth x)

    enters : (k j : ℕ) (row : Handler) → k < height → slice_get (rows_at k) j ≡ Some row → first_within (rows_at k) (spared e ls) ≡ j → Comes g q ls → LinkComes k j row
    enters k j row h s m come =
        let lt = slice_get_within (rows_at k) j row s in
        let l = lead (base + (start k + first_within (rows_at k) (spared e ls))) (spared e ls) [] false in
        let w = later_within (rows_at k) (spared e ls) j row (is.chains.index.sorted k (up k q)) (omega (arith, m)) s in (
          led_along l ls,
          (
            subst (λ z. Comes g (base + (start k + z)) (led_along l ls)) m (along q ls l come (subst (λ xs. Contains xs l) (sym leads_here)
                (Contains-append_right (inside n (own_leads e (length ls) q i.next (target_of i.instr))) (chain_leads base c q (spared e ls)) l
                (has_chains base levels starts q (spared e ls) height k h (omega (arith, m, lt)))))),
            low_first row.depth w,
          ),
        )

    -- from a row of a stretch to the next one
    goes_next : (k j : ℕ) (row next : Handler) → slice_get (rows_at k) j ≡ Some row → slice_get (rows_at k) (suc j) ≡ Some next → LinkComes k j row → LinkComes k (suc j) next
    goes_next k j row next s t (x, (come, low)) =
        let lt = slice_get_within (rows_at k) (suc j) next t in
        let d : next.depth ≤ row.depth = is.chains.index.sorted k (up k q) j (suc j) row next (omega arith) s t in
        let l = lead (base + ((start k + j) + 1)) row.depth [] false in
        let z : base + ((start k + j) + 1) ≡ base + (start k + suc j) = omega arith in
        let more : nat_eq (j + 1) (length (rows_at k)) ≡ false = grind (arith, nat_tests) in (
          led_along l x,
          (
            subst (λ v. Comes g v (led_along l x)) z (along (base + (start k + j)) x l come (subst (λ xs. Contains xs l) (sym (leads_of_link k j row s))
                (later (lead (n + row.target.0) row.depth [] false) (cond (nat_eq (j + 1) (length (rows_at k))) [] (l ∷ [])) l
                (subst (λ u. Contains (cond u [] (l ∷ [])) l) (sym more) (the_one l))))),
            low_next row.depth next.depth x d low,
          ),
        )

    to_link : (k j : ℕ) (row : Handler) → k < height → slice_get (rows_at k) j ≡ Some row → first_within (rows_at k) (spared e ls) ≤ j → Comes g q ls → LinkComes k j row
    to_link k zero row h s m come = enters k zero row h s (omega (arith, m)) come
    to_link k (suc j) row h s m come = elim (below_or j (first_within (rows_at k) (spared e ls))) [
      | inl lt ↦ enters k (suc j) row h s (omega (arith, m, lt)) come
      | inr le ↦ (let lt = slice_get_within (rows_at k) (suc j) row s in let (before, t) = got_at (rows_at k) j (omega (arith, lt)) in
          goes_next k j before row t s (to_link k j before h t le come))
    ]

    rows_here : i.rows ≡ filter (λ row. covers row (record { 0 = q })) b.handlers
    rows_here = seen.rows q i r.stands

    row_covers : (row : Handler) → Contains i.rows row → Contains b.handlers row × (covers row (record { 0 = q }) ≡ true)
    row_covers row d = in_filter (λ row. covers row (record { 0 = q })) b.handlers row (subst (λ rs. Contains rs row) rows_here d)

    under : (row : Handler) → Contains b.handlers row → covers row (record { 0 = q }) ≡ true → Contains i.rows row
    under row d t = subst (λ rs. Contains rs row) (sym rows_here) (filter_has (λ row. covers row (record { 0 = q })) b.handlers row d t)

    pub to_row : Comes g q ls → (j : ℕ) (row : Handler) → slice_get b.handlers j ≡ Some row → Contains i.rows row → row.depth ≤ spared e ls → Comes g (n + j) (cut row ls)
    to_row come j row s d h =
        let numbered_row = with_number j row in
        let z : 0 + j ≡ j = omega arith in
        let among = subst (λ k. Contains (numbered 0 b.handlers) (with_number k row)) z (numbered_has 0 b.handlers j row s) in
        let w = is.chains.index.whole q numbered_row in_n among (row_covers row d).1 in
        let (m, at) = has_number (rows_at w.level) numbered_row w.among in
        let low_level : w.level < height = (let k = level_in levels w.level (up w.level q) numbered_row w.among in let f : length levels ≡ height = length-map c.waiting.levels.items level_of in omega (arith, k, f)) in
        let (x, (there, low)) = to_link w.level m numbered_row low_level at (first_before (rows_at w.level) (spared e ls) m numbered_row at h) come in
        let l = lead (n + j) row.depth [] false in
        subst (Comes g (n + j)) (led_cut row.depth x ∙ (low row.depth (omega arith)).0) (along (base + (start w.level + m)) x l there
        (subst (λ xs. Contains xs l) (sym (leads_of_link w.level m numbered_row at)) (zero, omega arith, refl)))

    cut_long : (row : Handler) → row.depth ≤ spared e ls → row.depth ≤ length (cut row ls)
    cut_long row h = take_long row.depth row.depth ls (omega arith) (omega (arith, h))

    -- what a row gives its target
    landed : (row : Handler) → row.depth ≤ spared e ls → led_by row.depth (held_by row ∷ []) false (cut row ls) ≡ cut row ls ++ held_by row ∷ []
    landed row h = led_given row.depth (held_by row ∷ []) (cut row ls) (cut_long row h) ∙ ap (λ xs. xs ++ held_by row ∷ []) (take_shorter row.depth row.depth ls (omega arith))

  none_steps : (q : ℕ) (ks : Kinds) (s : Step) → b.at q ≡ None → Contains (steps b q ks) s → ⊥
  none_steps q ks s e d = none_in s (subst (λ o. Contains (steps_of b.links q ks o) s) e d)

  -- a step is what comes along edges
  step_comes : (q : ℕ) (i : Ins) (ks : Kinds) (r : Reached b p q i ks) → Comes g q ks → (s : Step) → Contains (steps b q ks) s → s.to < n → Comes g s.to s.kinds
  step_comes q i ks r come s d lt = elim (Contains-append_cases (by_instruction (effect b.links i.instr) ks q i) (by_handlers (effect b.links i.instr) ks i.rows) s
      (subst (λ o. Contains (steps_of b.links q ks o) s) r.stands d)) [
        | inl k ↦ own (steps_along b q i ks s k)
        | inr k ↦ (let (row, (f, same)) = in_map (landing ks) _ s k in let (under, t) = in_filter (is_within (effect b.links i.instr) ks) i.rows row f in
            subst (λ s. s.to < n → Comes g s.to s.kinds) same (λ lt. by_row row under (leb-true row.depth (spared (effect b.links i.instr) ks) t) lt) lt)
      ]
    where
      own : Along b q i ks (own_leads (effect b.links i.instr) (length ks) q i.next (target_of i.instr)) s → Comes g s.to s.kinds
      own a = subst (λ xs. Comes g s.to xs) a.is (subst (λ v. Comes g v (led_along a.lead ks)) a.to (along q ks a.lead come (subst (λ xs. Contains xs a.lead) (sym (leads_here q i ks r))
          (Contains-append_left (inside n (own_leads (effect b.links i.instr) (length ks) q i.next (target_of i.instr))) (chain_leads base c q (left (effect b.links i.instr) (length ks))) a.lead
          (inside_has n _ a.lead a.among (subst (λ v. v < n) (sym a.to) lt))))))

      by_row : (row : Handler) → Contains i.rows row → row.depth ≤ spared (effect b.links i.instr) ks → row.target.0 < n → Comes g row.target.0 (cut row ks ++ held_by row ∷ [])
      by_row row under h lt =
          let (j, s) = has_number b.handlers row (row_covers q i ks r row under).0 in
          let l = lead row.target.0 row.depth (held_by row ∷ []) false in
          subst (Comes g row.target.0) (landed q i ks r row h) (along (n + j) (cut row ks) l (to_row q i ks r come j row s under h)
          (subst (λ xs. Contains xs l) (sym (at_row (n + j) j refl (slice_get_within b.handlers j row s) ∙ ap (landing_leads n) s)) (inside_has n (l ∷ []) l (the_one l) lt)))

  pub gets_come : {q : ℕ} {ks : Kinds} → Gets b p q ks → Comes g q ks
  gets_come (P.start i e) = subst (Comes g 0) is.first F.start
  gets_come (P.onward {q = q} {r = r} {kept = k} {ks = ks} {ls = ls} gets low d j e) = by (gets_come gets) (b.at q) refl
    where
      by : Comes g q ks → (o : Option Ins) → b.at q ≡ o → Comes g r ls
      by come None f = absurd (none_steps q ks (step r ls k) f d)
      by come (Some i) f = step_comes q i ks (record { gets = gets; low = low; stands = f }) come (step r ls k) d (seen.below r j e)

  pub landings_come : (j : ℕ) (row : Handler) (ks : Kinds) → slice_get b.handlers j ≡ Some row → IsLanding b p row ks → Comes g (n + j) ks
  landings_come j row ks e l = subst (Comes g (n + j)) (sym l.is) (to_row l.pc l.ins l.kinds l.reached (gets_come l.reached.gets) j row e l.under l.within)

  -- and back
  pub data At (v : ℕ) (ks : Kinds) : Type 0 where
    on_place : v < n → ((j : Ins) → b.at v ≡ Some j → Gets b p v ks) → At v ks
    on_link : (q k j : ℕ) {i : Ins} {ls : Kinds} (row : Handler) → (r : Reached b p q i ls) → slice_get (stretch levels k (up k q)) j ≡ Some row
        → row.depth ≤ spared (effect b.links i.instr) ls → v ≡ base + (start_at starts k (up k q) + j) → Low q i ls r row.depth ks → At v ks
    on_row : (q j : ℕ) {i : Ins} {ls : Kinds} → (found : Handler) → Reached b p q i ls → slice_get b.handlers j ≡ Some found → Contains i.rows found
        → found.depth ≤ spared (effect b.links i.instr) ls → v ≡ n + j → ks ≡ cut found ls → At v ks
    nowhere : n ≡ 0 → At v ks

  from_ins : (q : ℕ) (i : Ins) (ks : Kinds) (r : Reached b p q i ks) (l : Lead) → Contains (place_leads n base c (effect b.links i.instr) (length ks) q i.next (target_of i.instr)) l
      → At l.to (led_along l ks)
  from_ins q i ks r l d = elim (Contains-append_cases (inside n (own_leads (effect b.links i.instr) (length ks) q i.next (target_of i.instr)))
      (chain_leads base c q (left (effect b.links i.instr) (length ks))) l d) [
        | inl k ↦ (let (lt, among) = in_inside n _ l k in let s = leads_step b q i ks l among in on_place lt (λ j f. P.onward r.gets r.low (at_ins s.kept s.among) j f))
        | inr m ↦ (let (k, (lt, same)) = in_chains base levels starts q (spared (effect b.links i.instr) ks) height l m in subst (λ l. At l.to (led_along l ks)) same
            (let first = stands_first (stretch levels k (up k q)) (spared (effect b.links i.instr) ks) lt in
            on_link q k (first_within (stretch levels k (up k q)) (spared (effect b.links i.instr) ks)) first.row r first.is first.within refl (low_first q i ks r first.row.depth first.within)))
      ]
    where
      at_ins : (kept : ℕ) → Contains (by_instruction (effect b.links i.instr) ks q i) (step l.to (led_along l ks) kept) → Contains (steps b q ks) (step l.to (led_along l ks) kept)
      at_ins kept d = subst (λ o. Contains (steps_of b.links q ks o) (step l.to (led_along l ks) kept)) (sym r.stands)
          (Contains-append_left (by_instruction (effect b.links i.instr) ks q i) (by_handlers (effect b.links i.instr) ks i.rows) (step l.to (led_along l ks) kept) d)

  from_place : (v : ℕ) (ks : Kinds) → ((j : Ins) → b.at v ≡ Some j → Gets b p v ks) → (l : Lead) → Contains (leads_from n base c b.links p v (place_at (b.at v)) (entry T v)) l
      → At l.to (led_along l ks)
  from_place v ks h l d = by (b.at v) (entry T v) refl refl d
    where
      by : (o : Option Ins) (m : Option ℕ) → b.at v ≡ o → entry T v ≡ m → Contains (leads_from n base c b.links p v (place_at o) m) l → At l.to (led_along l ks)
      by None m f s d = absurd (none_in l d)
      by (Some i) None f s d = absurd (none_in l d)
      by (Some i) (Some m) f s d = by_low (nat_le v p) refl d
        where
          by_low : (t : Bool) → nat_le v p ≡ t → Contains (cond t (place_leads n base c (effect b.links i.instr) m v i.next (target_of i.instr)) []) l → At l.to (led_along l ks)
          by_low false u x = absurd (none_in l x)
          by_low true u x =
              let r : Reached b p v i ks = record { gets = h i f; low = leb-true v p u; stands = f } in
              let same : m ≡ length ks = same_Some m (length ks) (sym s ∙ size_is v i ks r) in
              from_ins v i ks r l (subst (λ z. Contains (place_leads n base c (effect b.links i.instr) z v i.next (target_of i.instr)) l) same x)

  from_link : (q k j : ℕ) (i : Ins) (ls x : Kinds) (row : Handler) (r : Reached b p q i ls) → (s : slice_get (stretch levels k (up k q)) j ≡ Some row)
      → row.depth ≤ spared (effect b.links i.instr) ls → Low q i ls r row.depth x → (l : Lead)
      → Contains (link_leads n base (start_at starts k (up k q) + j) (Some (link_of row (nat_eq (j + 1) (length (stretch levels k (up k q))))))) l → At l.to (led_along l x)
  from_link q k j i ls x row r s within low l d = elim (earlier (lead (n + row.target.0) row.depth [] false)
      (cond (nat_eq (j + 1) (length (stretch levels k (up k q)))) [] (onward ∷ [])) l d) [
        | inl same ↦ subst (λ l. At l.to (led_along l x)) same to_its_row
        | inr m ↦ next (nat_eq (j + 1) (length (stretch levels k (up k q)))) refl m
      ]
    where
      onward : Lead
      onward = lead (base + ((start_at starts k (up k q) + j) + 1)) row.depth [] false

      by_row : (m : ℕ) (found : Handler) → slice_get b.handlers m ≡ Some found → covers found (record { 0 = q }) ≡ true → found.depth ≡ row.depth
          → At (n + (0 + m)) (led_by found.depth [] false x)
      by_row m found t u same = on_row q m found r t (under q i ls r found (got_in b.handlers m found t) u) (omega (arith, same, within)) (let z : n + (0 + m) ≡ n + m = omega arith in z)
          (led_cut found.depth x ∙ (low found.depth (omega (arith, same))).0)

      to_its_row : At (n + row.target.0) (led_by row.depth [] false x)
      to_its_row =
          let (known, t) = is.chains.index.known q row (record { level = k; among = got_in (stretch levels k (up k q)) j row s }) in
          let (m, (found, (at, same))) = in_numbered 0 b.handlers row known in
          subst (λ row. At (n + row.target.0) (led_by row.depth [] false x)) same
          (by_row m found at (subst (λ row. covers row (record { 0 = q }) ≡ true) (sym same) t) (ap (λ row. row.depth) same))

      next : (t : Bool) → nat_eq (j + 1) (length (stretch levels k (up k q))) ≡ t → Contains (cond t [] (onward ∷ [])) l → At l.to (led_along l x)
      next true f m = absurd (none_in l m)
      next false f m =
          let lt = slice_get_within (stretch levels k (up k q)) j row s in
          let more : suc j < length (stretch levels k (up k q)) = grind (arith, nat_tests) in
          let (after, t) = got_at (stretch levels k (up k q)) (suc j) more in
          let shallower : after.depth ≤ row.depth = is.chains.index.sorted k (up k q) j (suc j) row after (omega arith) s t in
          subst (λ l. At l.to (led_along l x)) (only_one onward l m)
          (on_link q k (suc j) after r t (omega (arith, shallower, within)) (omega arith) (low_next q i ls r row.depth after.depth x shallower low))

  from_row : (q j : ℕ) (i : Ins) (ls : Kinds) (found : Handler) (r : Reached b p q i ls) → slice_get b.handlers j ≡ Some found → Contains i.rows found
      → found.depth ≤ spared (effect b.links i.instr) ls → (l : Lead) → Contains (landing_leads n (slice_get b.handlers j)) l → At l.to (led_along l (cut found ls))
  from_row q j i ls found r s u h l d = let m = lead found.target.0 found.depth (held_by found ∷ []) false in
      let (lt, k) = in_inside n (m ∷ []) l (subst (λ o. Contains (landing_leads n o) l) s d) in
      on_place lt (subst (λ l. (jj : Ins) → b.at l.to ≡ Some jj → Gets b p l.to (led_along l (cut found ls))) (only_one m l k) lands)
    where
      lands : (jj : Ins) → b.at found.target.0 ≡ Some jj → Gets b p found.target.0 (led_by found.depth (held_by found ∷ []) false (cut found ls))
      lands jj f = subst (Gets b p found.target.0) (sym (landed q i ls r found h)) (P.onward r.gets r.low
          (subst (λ o. Contains (steps_of b.links q ls o) (landing ls found)) (sym r.stands)
          (Contains-append_right (by_instruction (effect b.links i.instr) ls q i) (by_handlers (effect b.links i.instr) ls i.rows) (landing ls found)
          (map_has (landing ls) (filter (is_within (effect b.links i.instr) ls) i.rows) found (filter_has (is_within (effect b.links i.instr) ls) i.rows found u
          (le-leb found.depth (spared (effect b.links i.instr) ls) h))))) jj f)

  from : (v : ℕ) (ks : Kinds) → At v ks → (l : Lead) → Contains (leads v) l → At l.to (led_along l ks)
  from v ks (on_place lt h) l d = from_place v ks h l (subst (λ xs. Contains xs l) (at_place v lt) d)
  from v ks (on_link q k j {i = i} {ls = ls} row r s h e low) l d = from_link q k j i ls ks row r s h low l
      (subst (λ xs. Contains xs l) (at_link v (start_at starts k (up k q) + j) e ∙ ap (link_leads n base (start_at starts k (up k q) + j)) (is.chains.stands k (up k q) j row s)) d)
  from v ks (on_row q j {i = i} {ls = ls} found r s u h e f) l d = subst (λ xs. At l.to (led_along l xs)) (sym f)
      (from_row q j i ls found r s u h l (subst (λ xs. Contains xs l) (at_row v j e (slice_get_within b.handlers j found s)) d))
  from v ks (nowhere e) l d = nowhere e

  pub comes_at : (v : ℕ) (ks : Kinds) → Comes g v ks → At v ks
  comes_at _ _ F.start = elim (below_or 0 n) [
    | inl h ↦ on_place h (λ j f. subst (Gets b p 0) (sym is.first) (P.start j f))
    | inr h ↦ nowhere (omega arith)
  ]
  comes_at _ _ (F.goes {v} {ks} {e} come edge) = from v ks (comes_at v ks come) (lead_of e) (subst (λ xs. Contains xs (lead_of e)) (is.leads v) (map_has lead_of (edges_at g.edges v) e edge))

  pub are_landings : (j : ℕ) (found : Handler) (ks : Kinds) → slice_get b.handlers j ≡ Some found → Comes g (n + j) ks → 0 < n → IsLanding b p found ks
  are_landings j found ks f come some = by (comes_at (n + j) ks come)
    where
      by : At (n + j) ks → IsLanding b p found ks
      by (on_place h k) = absurd (omega arith)
      by (on_link q k m row r s h e low) = absurd (let lt = slice_get_within b.handlers j found f in omega (arith, e, lt))
      by (on_row q m {i = i} {ls = ls} other r s u h e x) =
          let same : found ≡ other = same_Some found other (sym f ∙ (ap (slice_get b.handlers) (let z : j ≡ m = omega (arith, e) in z) ∙ s)) in
          subst (λ h. IsLanding b p h ks) (sym same) (record { pc = q; ins = i; kinds = ls; reached = r; under = u; within = h; is = x })
      by (nowhere e) = absurd (omega (arith, e, some))
