-- The steps of an instruction that finds what it takes, from the slots that are known.
use Rattle.std.proofs.Common.{◌≡◌, ◌⊎◌, inl, inr, ℕ, ◌+◌, ◌≤◌, zero, suc, min, Bool, true, false, ◌&&◌, cond, if◌then◌else◌, List, [], ◌∷◌, ◌++◌, map, filter, length, reverse, take, drop, Contains, Option, Some, None, refl, sym, ap, ◌∙◌, subst, arith, length-append, append-nil}
use Rattle.std.proofs.lemmas.List.{map-append, reverse-append, reverse-reverse, length-reverse, take-append-drop, take_min}
use Rattle.std.proofs.lemmas.List.Elements.{Contains-append_cases}
use Rattle.pt_instr.specs.declared.effects.Effect.{Effect}
use Rattle.pt_instr.specs.declared.kinds.Kind.{Kind}
use Rattle.pt_instr.specs.declared.kinds.Kind.TheVariants as kinds
use Rattle.pt_instr.specs.Effects.{Kinds}
use Rattle.pt_ranges.specs.declared.handlers.Handler.{Handler}
use Rattle.pt_code.specs.View.{Ins}
use Rattle.sem_fits.specs.fits.Block.{Block, effect, captured}
use Rattle.sem_fits.specs.fits.Steps.{Step, step, steps, steps_of, by_instruction, by_handlers, onward as onward_steps, aside as aside_steps, again, gives, given_behind, spared, below, taken, has_enough, is_within, held_by, landing, target_of, are_kinds}
use Rattle.sem_fits.proofs.fits.Swaps.{given_found, given_lifted, swap_takes}
use Rattle.law_pieces.specs.piece_kinds.Walk.{Loop, StackMap, kinds_of, made, lowest, given, turned, given_at, onward}
use Rattle.law_pieces.specs.piece_kinds.Typed.{Over, Takes, plainly}
use Rattle.law_pieces.specs.piece_kinds.Typed as typed
use Rattle.law_pieces.specs.piece_kinds.Table.{Table, IsOf, AllOf, Follows}
use Rattle.law_pieces.proofs.piece_kinds.ListLemmas.{take_over, drop_over, take_front, drop_front, reverse_cons, lowest_is, map_take, map_reverse, kind, kinds_append, length_kinds, kinds_reversed, over_length, lowest_of_over, over_all}
use Rattle.law_pieces.proofs.piece_kinds.EffectLemmas.{KeepsOf, Keeps, keeps_no_slot, keeps_behind, keeps_aside, swap_keeps, swap_aside, aside_kinds}

-- a step leads from the one slots to the others
pub record Leads (ks slots : StackMap) (s : Step) : Type 0 where
  pub kinds : kinds_of slots ≡ s.kinds
  pub kept : take s.kept (reverse slots) ≡ take s.kept (reverse ks)
  pub made : AllOf s.to (drop s.kept (reverse slots))

pub follows : {at : Table} {ks slots : StackMap} {s : Step} → at s.to ≡ Some slots → Leads ks slots s → Follows at ks s
follows {slots = slots} e l = record { slots = slots; there = e; kinds = l.kinds; kept = l.kept; made = l.made }

kind_made : (p : ℕ) (x : Option Loop) (k : Kind) → kind (made p x k) ≡ k
kind_made p x kinds.Value = refl
kind_made p x kinds.Cell = refl
kind_made p x kinds.Iter = refl
kind_made p x kinds.Exc = refl
kind_made p x kinds.Pending = refl
kind_made p x kinds.With = refl

made_of : (p : ℕ) (x : Option Loop) (k : Kind) → let m = made p x k in IsOf p m.origin
made_of p x kinds.Value = tt
made_of p x kinds.Cell = tt
made_of p x kinds.Iter = refl
made_of p x kinds.Exc = refl
made_of p x kinds.Pending = refl
made_of p x kinds.With = refl

kinds_made : (p : ℕ) (x : Option Loop) (g : Kinds) → map kind (map (made p x) g) ≡ g
kinds_made p x [] = refl
kinds_made p x (k ∷ g) = ap (λ l. l ∷ map kind (map (made p x) g)) (kind_made p x k) ∙ ap (λ l. k ∷ l) (kinds_made p x g)

all_made : (p : ℕ) (x : Option Loop) (g : Kinds) → AllOf p (map (made p x) g)
all_made p x [] = tt
all_made p x (k ∷ g) = (made_of p x k, all_made p x g)

pub counted : {e : Effect} {ts : StackMap} → Takes e ts → length e.takes ≡ length ts
counted {ts = ts} (plainly f) = ap length (sym f) ∙ length_kinds ts
counted {ts = ts} (typed.turned s n f) = n ∙ (ap length (sym f) ∙ length_kinds ts)

module _ (e : Effect) (ts rs : StackMap) (count : length e.takes ≡ length ts) where
  abbrev ks : StackMap
  ks = ts ++ rs

  spared_is : spared e (kinds_of ks) ≡ length rs
  spared_is = let a = length_kinds (ts ++ rs) in let b = length-append ts rs in omega (arith, a, b, count)

  seam : spared e (kinds_of ks) ≡ length (kinds_of rs) + 0
  seam = let a = spared_is in let b = length_kinds rs in omega (arith, a, b)

  pub below_is : below e (kinds_of ks) ≡ kinds_of rs
  below_is = ap (take (spared e (kinds_of ks))) (kinds_append ts rs) ∙ (take_over (spared e (kinds_of ks)) 0 (kinds_of rs) (kinds_of ts) seam ∙ append-nil (kinds_of rs))

  pub taken_is : taken e (kinds_of ks) ≡ kinds_of ts
  taken_is = ap (drop (spared e (kinds_of ks))) (kinds_append ts rs) ∙ drop_over (spared e (kinds_of ks)) 0 (kinds_of rs) (kinds_of ts) seam

  pub top_is : take (length e.takes) ks ≡ ts
  top_is = take_over (length e.takes) 0 ts rs (let h = count in omega (arith, h)) ∙ append-nil ts

  pub rest_is : drop (length e.takes) ks ≡ rs
  rest_is = drop_over (length e.takes) 0 ts rs (let h = count in omega (arith, h))

  module _ (to : ℕ) (x : Option Loop) (g : Kinds) (same : take (min e.keeps (length g)) (kinds_of ts) ≡ take (min e.keeps (length g)) g)
      (within : min e.keeps (length g) ≤ length ts) where
    abbrev m : ℕ
    m = min e.keeps (length g)

    abbrev Y : StackMap
    Y = take m (reverse ts) ++ map (made to x) (drop e.keeps g)

    abbrev slots : StackMap
    slots = given e.keeps to x ts g ++ rs

    reversed : reverse slots ≡ reverse rs ++ Y
    reversed = reverse-append (reverse Y) rs ∙ ap (λ zs. reverse rs ++ zs) (reverse-reverse Y)

    within_reversed : m ≤ length (reverse ts)
    within_reversed = let a = length-reverse ts in let w = within in omega (arith, a, w)

    kinds_given : map kind Y ≡ g
    kinds_given = map-append kind (take m (reverse ts)) (map (made to x) (drop e.keeps g))
        ∙ (ap (λ zs. zs ++ map kind (map (made to x) (drop e.keeps g))) (map_take kind m (reverse ts) ∙ (ap (take m) (map_reverse kind ts) ∙ (same ∙ take_min e.keeps g)))
        ∙ (ap (λ zs. take e.keeps g ++ zs) (kinds_made to x (drop e.keeps g)) ∙ take-append-drop e.keeps g))

    seam_kept : spared e (kinds_of ks) + m ≡ length (reverse rs) + m
    seam_kept = let a = spared_is in let b = length-reverse rs in omega (arith, a, b)

    given_kept : take (spared e (kinds_of ks) + m) (reverse slots) ≡ take (spared e (kinds_of ks) + m) (reverse ks)
    given_kept = ap (take (spared e (kinds_of ks) + m)) reversed ∙ (take_over (spared e (kinds_of ks) + m) m (reverse rs) Y seam_kept
        ∙ (ap (λ zs. reverse rs ++ zs) (take_front m (reverse ts) (map (made to x) (drop e.keeps g)) within_reversed)
        ∙ (sym (take_over (spared e (kinds_of ks) + m) m (reverse rs) (reverse ts) seam_kept) ∙ ap (take (spared e (kinds_of ks) + m)) (sym (reverse-append ts rs)))))

    given_made : AllOf to (drop (spared e (kinds_of ks) + m) (reverse slots))
    given_made = subst (AllOf to) (sym (ap (drop (spared e (kinds_of ks) + m)) reversed ∙ (drop_over (spared e (kinds_of ks) + m) m (reverse rs) Y seam_kept
        ∙ drop_front m (reverse ts) (map (made to x) (drop e.keeps g)) within_reversed))) (all_made to x (drop e.keeps g))

    given_leads : Leads ks slots (gives e (kinds_of ks) to g)
    given_leads = record {
      kinds = kinds_append (given e.keeps to x ts g) rs ∙ (ap (λ zs. kinds_of rs ++ zs) (kinds_reversed Y ∙ kinds_given) ∙ ap (λ zs. zs ++ g) (sym below_is));
      kept = given_kept;
      made = given_made;
    }

    pub leads : Leads ks (given e.keeps to x (take (length e.takes) ks) g ++ drop (length e.takes) ks) (gives e (kinds_of ks) to g)
    leads = subst (λ zs. Leads ks (given e.keeps to x zs g ++ drop (length e.takes) ks) (gives e (kinds_of ks) to g)) (sym top_is)
        (subst (λ zs. Leads ks (given e.keeps to x ts g ++ zs) (gives e (kinds_of ks) to g)) (sym rest_is) given_leads)

single : {X : Type 0} (x y : X) → Contains (x ∷ []) y → x ≡ y
single x y (zero, l, e) = e
single x y (suc k, l, e) = absurd (let h : ⊥ = omega (arith, l) in h)

none : {X C : Type 0} {y : X} → Contains [] y → C
none (k, l, e) = absurd (let h : ⊥ = omega (arith, l) in h)

-- a handler row leaves the lowest slots, and makes one
module _ (ks : StackMap) (row : Handler) (x : Option Loop) (deep : row.depth ≤ length ks) where
  deep_reversed : row.depth ≤ length (reverse ks)
  deep_reversed = let a = length-reverse ks in let d = deep in omega (arith, a, d)

  row_reversed : reverse (made row.target.0 x (held_by row) ∷ lowest row.depth ks) ≡ take row.depth (reverse ks) ++ made row.target.0 x (held_by row) ∷ []
  row_reversed = reverse_cons (made row.target.0 x (held_by row)) (lowest row.depth ks)
      ∙ ap (λ zs. zs ++ made row.target.0 x (held_by row) ∷ []) (ap reverse (lowest_is row.depth ks) ∙ reverse-reverse (take row.depth (reverse ks)))

  row_kinds : kinds_of (made row.target.0 x (held_by row) ∷ lowest row.depth ks) ≡ take row.depth (kinds_of ks) ++ held_by row ∷ []
  row_kinds = kinds_append (made row.target.0 x (held_by row) ∷ []) (lowest row.depth ks)
      ∙ (ap (λ zs. zs ++ kind (made row.target.0 x (held_by row)) ∷ []) (ap kinds_of (lowest_is row.depth ks) ∙ (kinds_reversed (take row.depth (reverse ks))
      ∙ (map_take kind row.depth (reverse ks) ∙ ap (take row.depth) (map_reverse kind ks))))
      ∙ ap (λ k. take row.depth (kinds_of ks) ++ k ∷ []) (kind_made row.target.0 x (held_by row)))

  pub row_leads : Leads ks (made row.target.0 x (held_by row) ∷ lowest row.depth ks) (landing (kinds_of ks) row)
  row_leads = record {
    kinds = row_kinds;
    kept = ap (take row.depth) row_reversed ∙ take_front row.depth (reverse ks) (made row.target.0 x (held_by row) ∷ []) deep_reversed;
    made = subst (AllOf row.target.0) (sym (ap (drop row.depth) row_reversed ∙ drop_front row.depth (reverse ks) (made row.target.0 x (held_by row) ∷ []) deep_reversed))
        (made_of row.target.0 x (held_by row), tt);
  }

-- what a row that covers a place has at its target, where the lowest slots of the place are these
pub record RowRight (at : Table) (base : StackMap) (row : Handler) : Type 0 where
  pub loop : Option Loop
  pub there : at row.target.0 ≡ Some (made row.target.0 loop (held_by row) ∷ lowest row.depth base)
  pub within : row.depth ≤ length base

abbrev pub RowsRight : Table → (base : StackMap) → List Handler → Type 0
RowsRight at base [] = Unit {0}
RowsRight at base (row ∷ rows) = RowRight at base row × RowsRight at base rows

pub rows_over : (at : Table) {base more : StackMap} (rows : List Handler) → Over base more → RowsRight at base rows → RowsRight at more rows
rows_over at [] o h = tt
rows_over at {base = base} {more = more} (row ∷ rows) o (h, hs) = (
  record {
    loop = h.loop;
    there = h.there ∙ ap (λ zs. Some (made row.target.0 h.loop (held_by row) ∷ zs)) (sym (lowest_of_over row.depth o h.within));
    within = let l = over_length o in let w = h.within in omega (arith, l, w);
  },
  rows_over at rows o hs,
)

module _ (b : Block) (at : Table) (q : ℕ) (i : Ins) (stands : b.at q ≡ Some i) (ts rs base : StackMap) where
  abbrev f : Effect
  f = effect b.links i.instr

  abbrev here : StackMap
  here = ts ++ rs

  module _ (takes : Takes (effect b.links i.instr) ts) (over : Over base rs) (rows : RowsRight at base i.rows) (x : Option Loop)
      (behind : (slots : StackMap) → onward (effect b.links i.instr) i.next x (ts ++ rs) (let e = effect b.links i.instr in e.gives) ≡ Some slots → at i.next ≡ Some slots)
      (aside : (t : ℕ) (slots : StackMap) → target_of i.instr ≡ Some t
      → given_at (effect b.links i.instr) 0 None (ts ++ rs) (let e = effect b.links i.instr in e.aside) ≡ Some slots → at t ≡ Some slots)
      (itself : at q ≡ Some (ts ++ rs)) where
    count : length f.takes ≡ length ts
    count = counted takes

    abbrev turns_to : Kinds → Bool → Kinds → Kinds
    turns_to g s zs = if s && are_kinds zs (kinds.Iter ∷ kinds.Value ∷ []) then kinds.Value ∷ kinds.Iter ∷ [] else g

    turns : (g : Kinds) → f.gives ≡ Some g → given_behind f (kinds_of here) g ≡ turned f.swaps (take (length f.takes) here) g
    turns g is = by takes ∙ ap (λ zs. turned f.swaps zs g) (sym (top_is f ts rs count))
      where
        plain : (s : Bool) → f.swaps ≡ s → kinds_of ts ≡ f.takes → turned f.swaps ts g ≡ g
        plain true s h = ap (λ t. turns_to g t (kinds_of ts)) s ∙ ap (turns_to g true) (h ∙ swap_takes i.instr (captured b.links i.instr) s)
        plain false s h = ap (λ t. turns_to g t (kinds_of ts)) s

        by : Takes f ts → given_behind f (kinds_of here) g ≡ turned f.swaps ts g
        by (plainly h) = given_found i.instr (captured b.links i.instr) (kinds_of here) g (taken_is f ts rs count ∙ h) is ∙ sym (plain f.swaps refl h)
        by (typed.turned s n h) = given_lifted f (kinds_of here) g s (taken_is f ts rs count ∙ h)
            ∙ sym (ap (λ t. turns_to g t (kinds_of ts)) s ∙ ap (turns_to g true) h)

    -- what is kept has the kinds of what is given
    keeps_turned : (g : Kinds) → KeepsOf f g → KeepsOf f (turned f.swaps ts g) × (take (min f.keeps (length (turned f.swaps ts g))) (kinds_of ts)
        ≡ take (min f.keeps (length (turned f.swaps ts g))) (turned f.swaps ts g))
    keeps_turned g k = by takes
      where
        no_slot : f.swaps ≡ true → KeepsOf f (turned f.swaps ts g) × (take (min f.keeps (length (turned f.swaps ts g))) (kinds_of ts)
            ≡ take (min f.keeps (length (turned f.swaps ts g))) (turned f.swaps ts g))
        no_slot s =
            let n : 0 ≡ min f.keeps (length (turned f.swaps ts g)) = (let z = swap_keeps i.instr (captured b.links i.instr) s in omega (arith, z)) in
            (keeps_no_slot f (turned f.swaps ts g) (swap_keeps i.instr (captured b.links i.instr) s), subst (λ n. take n (kinds_of ts) ≡ take n (turned f.swaps ts g)) n refl)

        if_plain : kinds_of ts ≡ f.takes → (s : Bool) → f.swaps ≡ s → KeepsOf f (turned f.swaps ts g) × (take (min f.keeps (length (turned f.swaps ts g))) (kinds_of ts)
            ≡ take (min f.keeps (length (turned f.swaps ts g))) (turned f.swaps ts g))
        if_plain h true s = no_slot s
        if_plain h false s =
            let same : turned f.swaps ts g ≡ g = ap (λ t. if t && are_kinds (kinds_of ts) (kinds.Iter ∷ kinds.Value ∷ []) then kinds.Value ∷ kinds.Iter ∷ [] else g) s in
            subst (λ z. KeepsOf f z × (take (min f.keeps (length z)) (kinds_of ts) ≡ take (min f.keeps (length z)) z)) (sym same)
            (k, ap (take (min f.keeps (length g))) h ∙ k.0)

        by : Takes f ts → KeepsOf f (turned f.swaps ts g) × (take (min f.keeps (length (turned f.swaps ts g))) (kinds_of ts)
            ≡ take (min f.keeps (length (turned f.swaps ts g))) (turned f.swaps ts g))
        by (plainly h) = if_plain h f.swaps refl
        by (typed.turned s n h) = no_slot s

    onward_right : (o : Option Kinds) → f.gives ≡ o → Keeps f o → ((slots : StackMap) → onward f i.next x here o ≡ Some slots → at i.next ≡ Some slots)
        → (s : Step) → Contains (onward_steps f (kinds_of here) i.next o) s → Follows at here s
    onward_right None is k h s c = none c
    onward_right (Some g) is k h s c =
        let u = keeps_turned g k in
        subst (Follows at here) (single (gives f (kinds_of here) i.next (given_behind f (kinds_of here) g)) s c)
        (subst (λ z. Follows at here (gives f (kinds_of here) i.next z)) (sym (turns g is))
        (follows (h _ refl) (subst (λ z. Leads here (given f.keeps i.next x (take (length f.takes) here) z ++ drop (length f.takes) here) (gives f (kinds_of here) i.next z))
        (ap (λ z. turned f.swaps z g) (sym (top_is f ts rs count)))
        (leads f ts rs count i.next x (turned f.swaps ts g) u.1 (let w = (u.0).1 in omega (arith, w, count))))))

    -- a value isn't followed
    made_value : (t n : ℕ) → map (made t None) (drop n (kinds.Value ∷ [])) ≡ map (made 0 None) (drop n (kinds.Value ∷ []))
    made_value t zero = refl
    made_value t (suc zero) = refl
    made_value t (suc (suc n)) = refl

    aside_place : (t : ℕ) → given_at f t None here f.aside ≡ given_at f 0 None here f.aside
    aside_place t = by (aside_kinds i.instr (captured b.links i.instr))
      where
        by : (f.aside ≡ None) ⊎ (f.aside ≡ Some []) ⊎ (f.aside ≡ Some (kinds.Value ∷ [])) → given_at f t None here f.aside ≡ given_at f 0 None here f.aside
        by (inl h) = subst (λ o. given_at f t None here o ≡ given_at f 0 None here o) (sym h) refl
        by (inr (inl h)) = subst (λ o. given_at f t None here o ≡ given_at f 0 None here o) (sym h) (empty f.keeps)
          where
            empty : (n : ℕ) → Some (given n t None (take (length f.takes) here) [] ++ drop (length f.takes) here)
                ≡ Some (given n 0 None (take (length f.takes) here) [] ++ drop (length f.takes) here)
            empty zero = refl
            empty (suc n) = refl
        by (inr (inr h)) = subst (λ o. given_at f t None here o ≡ given_at f 0 None here o) (sym h)
            (ap (λ zs. Some (reverse (take (min f.keeps 1) (reverse (take (length f.takes) here)) ++ zs) ++ drop (length f.takes) here)) (made_value t f.keeps))

    aside_right : (t : Option ℕ) (o : Option Kinds) → f.aside ≡ o → Keeps f o → target_of i.instr ≡ t
        → (s : Step) → Contains (aside_steps f (kinds_of here) t o) s → Follows at here s
    aside_right None None e k tg s c = none c
    aside_right None (Some g) e k tg s c = none c
    aside_right (Some t) None e k tg s c = none c
    aside_right (Some t) (Some g) e k tg s c =
        subst (Follows at here) (single (gives f (kinds_of here) t g) s c)
        (follows (aside t _ tg (sym (aside_place t) ∙ ap (given_at f t None here) e)) (leads f ts rs count t None g (plain_kept takes)
        (let w = k.1 in omega (arith, w, count))))
      where
        plain_kept : Takes f ts → take (min f.keeps (length g)) (kinds_of ts) ≡ take (min f.keeps (length g)) g
        plain_kept (plainly h) = ap (take (min f.keeps (length g))) h ∙ k.0
        plain_kept (typed.turned s n h) = absurd (let z : Some g ≡ None = sym e ∙ swap_aside i.instr (captured b.links i.instr) s in let h : ⊥ = cc in h)

    again_right : (a : Bool) (s : Step) → Contains (if a then step q (kinds_of here) (length (kinds_of here)) ∷ [] else []) s → Follows at here s
    again_right false s c = none c
    again_right true s c = subst (Follows at here) (single (step q (kinds_of here) (length (kinds_of here))) s c) (record {
      slots = here;
      there = itself;
      kinds = refl;
      kept = refl;
      made = subst (AllOf q) (sym (all_dropped (length (kinds_of here)) (reverse here) (let a = length_kinds here in let b = length-reverse here in omega (arith, a, b)))) tt;
    })
      where
        all_dropped : {X : Type 0} (n : ℕ) (xs : List X) → length xs ≤ n → drop n xs ≡ []
        all_dropped zero [] l = refl
        all_dropped zero (y ∷ xs) l = absurd (let h : ⊥ = omega (arith, l) in h)
        all_dropped (suc n) [] l = refl
        all_dropped (suc n) (y ∷ xs) l = all_dropped n xs (omega (arith, l))

    rows_right : (hs : List Handler) → RowsRight at base hs → (s : Step) → Contains (by_handlers f (kinds_of here) hs) s → Follows at here s
    rows_right [] r s c = none c
    rows_right (row ∷ hs) (r, rest) s c = by_test (λ d. rows_right hs rest s d) (is_within f (kinds_of here) row) c
      where
        over_here : Over base here
        over_here = over_all ts over

        landed : Follows at here (landing (kinds_of here) row)
        landed =
            let l = over_length over_here in
            let w = r.within in
            follows (r.there ∙ ap (λ zs. Some (made row.target.0 r.loop (held_by row) ∷ zs)) (sym (lowest_of_over row.depth over_here w)))
            (row_leads here row r.loop (omega (arith, l, w)))

        by_test : (Contains (by_handlers f (kinds_of here) hs) s → Follows at here s) → (t : Bool) → Contains (map (landing (kinds_of here)) (cond t (row ∷ filter (is_within f (kinds_of here)) hs) (filter (is_within f (kinds_of here)) hs))) s
            → Follows at here s
        by_test ih true (zero, l, g) = subst (Follows at here) g landed
        by_test ih true (suc n, l, g) = ih (n, (omega (arith, l)), g)
        by_test ih false c = ih c

    own_right : (t : Bool) (s : Step) → Contains (if t then (onward_steps f (kinds_of here) i.next f.gives ++ (aside_steps f (kinds_of here) (target_of i.instr) f.aside
        ++ again f (kinds_of here) q)) else []) s → Follows at here s
    own_right false s c = none c
    own_right true s c = by_part (Contains-append_cases (onward_steps f (kinds_of here) i.next f.gives) (aside_steps f (kinds_of here) (target_of i.instr) f.aside
        ++ again f (kinds_of here) q) s c)
      where
        by_rest : Contains (aside_steps f (kinds_of here) (target_of i.instr) f.aside) s ⊎ Contains (again f (kinds_of here) q) s → Follows at here s
        by_rest (inl d) = aside_right (target_of i.instr) f.aside refl (keeps_aside i.instr (captured b.links i.instr)) refl s d
        by_rest (inr d) = again_right f.again s d

        by_part : Contains (onward_steps f (kinds_of here) i.next f.gives) s ⊎ Contains (aside_steps f (kinds_of here) (target_of i.instr) f.aside ++ again f (kinds_of here) q) s
            → Follows at here s
        by_part (inl d) = onward_right f.gives refl (keeps_behind i.instr (captured b.links i.instr)) behind s d
        by_part (inr d) = by_rest (Contains-append_cases (aside_steps f (kinds_of here) (target_of i.instr) f.aside) (again f (kinds_of here) q) s d)

    pub each_right : (s : Step) → Contains (steps b q (kinds_of (ts ++ rs))) s → Follows at (ts ++ rs) s
    each_right s c = by_part (Contains-append_cases (by_instruction f (kinds_of here) q i) (by_handlers f (kinds_of here) i.rows) s
        (subst (λ o. Contains (steps_of b.links q (kinds_of here) o) s) stands c))
      where
        by_part : Contains (by_instruction f (kinds_of here) q i) s ⊎ Contains (by_handlers f (kinds_of here) i.rows) s → Follows at here s
        by_part (inl d) = own_right (has_enough f (kinds_of here)) s d
        by_part (inr d) = rows_right i.rows rows s d
