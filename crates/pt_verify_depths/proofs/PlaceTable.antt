-- The sizes of a table of places are those of the block.
use Rattle.std.proofs.Common.{◌≡◌, ℕ, ◌+◌, ◌-◌, ◌<◌, ◌≤◌, zero, suc, Bool, true, false, if◌then◌else◌, List, [], ◌∷◌, ◌++◌, length, map, filter, Option, Some, None, refl, sym, ap, ◌∙◌, subst, arith, ◌⊎◌, inl, inr}
use Rattle.std.specs.Prelude.{Contains, cond, nat_eq, nat_le, option_map}
use Rattle.std.proofs.lemmas.List.Elements.{Contains-append_left, Contains-append_right, Contains-append_cases}
use Rattle.std.proofs.lemmas.Bool.{false≢true}
use Rattle.std.proofs.lemmas.Bool.Decides.{nat_tests}
use Rattle.std.proofs.lemmas.Option.{same_Some}
use Rattle.pt_instr.specs.declared.effects.Effect.{Effect}
use Rattle.pt_instr.specs.Effects.{Kinds}
use Rattle.pt_ranges.specs.declared.handlers.Handler.{Handler}
use Rattle.pt_ranges.specs.Rows.{covers}
use Rattle.pt_code.specs.View.{Ins}
use Rattle.pt_sizes.specs.declared.places.Place.{Place}
use Rattle.pt_sizes.specs.declared.flow.Sizes.{Sizes}
use Rattle.pt_sizes.specs.declared.flow.Sizes.TheVariants as sizes
use Rattle.pt_sizes.specs.Flow as F
use Rattle.pt_sizes.specs.Flow.{Body, entry}
use Rattle.pt_sizes.proofs.Theory.{more_gets, more_deep, more_lacks}
use Rattle.pt_sizes.proofs.Tables.{entry_in, some_or_none, none_in_empty}
use Rattle.pt_partial_sizes.specs.Cut.{TellsBelow}
use Rattle.sem_fits.specs.fits.Block.{Block, effect}
use Rattle.sem_fits.specs.fits.Steps.{reads, target_of}
use Rattle.sem_fits.specs.fits.Fits.{IsLeast}
use Rattle.pt_verify_depths.specs.Sizes as S
use Rattle.pt_verify_depths.specs.Sizes.{SizeStep, sized, left, is_enough, gives_onward, gives_aside, gives_again, own_sizes, leaves_enough, landing_size, handler_sizes, size_steps, size_steps_of, Sized, SizesMeet, RowTooDeep, Lacks}
use Rattle.pt_verify_depths.specs.PlaceTable.{aside_given, target_or, place_of, place_at, HasPlaces, body, SizesDisagree, AreSizes, MeetFirst, NumberTooDeep, DeepFirst, FewFirst, TellsSizes, TellsSizesUpTo, TablesTell}
use Rattle.pt_verify_depths.specs.PlaceTable as T

-- the ways on of an instruction itself are the same

onward_same : (e : Effect) (n next : ℕ) (o : Option Kinds) → F.step_to next (n - length e.takes) (option_map length o) ≡ gives_onward e n next o
onward_same e n next (Some given) = refl
onward_same e n next None = refl

aside_same : (e : Effect) (n : ℕ) (t : Option ℕ) (o : Option Kinds) → F.step_to (target_or t) (n - length e.takes) (aside_given t o) ≡ gives_aside e n t o
aside_same e n (Some t) (Some given) = refl
aside_same e n (Some t) None = refl
aside_same e n None (Some given) = refl
aside_same e n None None = refl

parts_same : (e : Effect) (n q : ℕ) (i : Ins) → F.step_to i.next (n - length e.takes) (option_map length e.gives) ++ (F.step_to (target_or (target_of i.instr)) (n - length e.takes) (aside_given (target_of i.instr) e.aside) ++ F.step_again e.again q n)
    ≡ gives_onward e n i.next e.gives ++ (gives_aside e n (target_of i.instr) e.aside ++ gives_again e n q)
parts_same e n q i = ap (λ xs. xs ++ (F.step_to (target_or (target_of i.instr)) (n - length e.takes) (aside_given (target_of i.instr) e.aside) ++ F.step_again e.again q n)) (onward_same e n i.next e.gives)
    ∙ ap (λ xs. gives_onward e n i.next e.gives ++ (xs ++ F.step_again e.again q n)) (aside_same e n (target_of i.instr) e.aside)

own_same : (e : Effect) (n q : ℕ) (i : Ins) → F.own_steps (place_of e (target_of i.instr) i.next) q n ≡ own_sizes e n q i
own_same e n q i = ap (λ xs. if (nat_le (length e.takes + reads e.above) n) then xs else []) (parts_same e n q i)

-- rows among those that are kept

module _ {X : Type 0} (p : X → Bool) where
  kept : (xs : List X) (x : X) → Contains (filter p xs) x → Contains xs x × (p x ≡ true)
  kept [] x c = absurd (none_in_empty x c)
  kept (y ∷ ys) x c = by_test (kept ys x) (p y) refl c
    where
      by_test : (Contains (filter p ys) x → Contains ys x × (p x ≡ true)) → (t : Bool) → p y ≡ t → Contains (cond t (y ∷ filter p ys) (filter p ys)) x → Contains (y ∷ ys) x × (p x ≡ true)
      by_test ih true w (zero, l, e) = ((zero, (omega arith), e), subst (λ z. p z ≡ true) e w)
      by_test ih true w (suc k, l, e) = let (c, t) = ih (k, (omega (arith, l)), e) in (behind c, t)
        where
          behind : Contains ys x → Contains (y ∷ ys) x
          behind (k, l, e) = (suc k, (omega (arith, l)), e)
      by_test ih false w c = let (d, t) = ih c in (behind d, t)
        where
          behind : Contains ys x → Contains (y ∷ ys) x
          behind (k, l, e) = (suc k, (omega (arith, l)), e)

  keeps : (xs : List X) (x : X) → Contains xs x → p x ≡ true → Contains (filter p xs) x
  keeps [] x c t = absurd (none_in_empty x c)
  keeps (y ∷ ys) x (zero, l, e) t = by_test (p y) (subst (λ z. p z ≡ true) (sym e) t)
    where
      by_test : (u : Bool) → u ≡ true → Contains (cond u (y ∷ filter p ys) (filter p ys)) x
      by_test true w = (zero, (omega arith), e)
      by_test false w = absurd (false≢true w)
  keeps (y ∷ ys) x (suc k, l, e) t = by_test (keeps ys x (k, (omega (arith, l)), e) t) (p y)
    where
      by_test : Contains (filter p ys) x → (u : Bool) → Contains (cond u (y ∷ filter p ys) (filter p ys)) x
      by_test (j, m, g) true = (suc j, (omega (arith, m)), g)
      by_test c false = c

mapped : {X Y : Type 0} (f : X → Y) (xs : List X) (y : Y) → Contains (map f xs) y → (x : X) × (Contains xs x × (f x ≡ y))
mapped f [] y c = absurd (none_in_empty y c)
mapped f (x ∷ xs) y (zero, l, e) = (x, ((zero, (omega arith), refl), e))
mapped f (x ∷ xs) y (suc k, l, e) = let (z, ((j, m, g), h)) = mapped f xs y (k, (omega (arith, l)), e) in (z, ((suc j, (omega (arith, m)), g), h))

maps : {X Y : Type 0} (f : X → Y) (xs : List X) (x : X) → Contains xs x → Contains (map f xs) (f x)
maps f [] x c = absurd (none_in_empty x c)
maps f (y ∷ ys) x (zero, l, e) = (zero, (omega arith), ap f e)
maps f (y ∷ ys) x (suc k, l, e) = let (j, m, g) = maps f ys x (k, (omega (arith, l)), e) in (suc j, (omega (arith, m)), g)

within : (a c : ℕ) → nat_le a c ≡ true → a ≤ c
within a c h = grind (arith, nat_tests)

is_within : (a c : ℕ) → a ≤ c → nat_le a c ≡ true
is_within a c h = grind (arith, nat_tests)

beyond : (a c : ℕ) → nat_le a c ≡ false → c < a
beyond a c h = grind (arith, nat_tests)

is_beyond : (a c : ℕ) → c < a → nat_le a c ≡ false
is_beyond a c h = grind (arith, nat_tests)

differ : (a c : ℕ) → nat_eq a c ≡ false → a ≡ c → ⊥
differ a c h e = grind (arith, nat_tests)

is_other : (a c : ℕ) → (a ≡ c → ⊥) → nat_eq a c ≡ false
is_other a c h = grind (arith, nat_tests)

module _ (b : Block) (table : List (Option Place)) (is : HasPlaces b table) where
  abbrev B : Body
  B = body b table

  place_here : (q : ℕ) (i : Ins) → b.at q ≡ Some i → entry table q ≡ Some (place_of (effect b.links i.instr) (target_of i.instr) i.next)
  place_here q i e = is.each q ∙ ap (place_at b.links) e

  ins_here : (q : ℕ) (place : Place) → entry table q ≡ Some place → (i : Ins) × ((b.at q ≡ Some i) × (place ≡ place_of (effect b.links i.instr) (target_of i.instr) i.next))
  ins_here q place e = by_ins (b.at q) refl (sym (is.each q) ∙ e)
    where
      by_ins : (o : Option Ins) → b.at q ≡ o → place_at b.links o ≡ Some place → (i : Ins) × ((b.at q ≡ Some i) × (place ≡ place_of (effect b.links i.instr) (target_of i.instr) i.next))
      by_ins None h g = absurd (some_or_none place (sym g))
      by_ins (Some i) h g = (i, (h, sym (same_Some _ _ g)))

  -- the ways on are the same

  leads : (q n : ℕ) (i : Ins) → b.at q ≡ Some i → (s : SizeStep) → Contains (size_steps b q n) s → F.Leads B q n (place_of (effect b.links i.instr) (target_of i.instr) i.next) s
  leads q n i e s c = by_part (Contains-append_cases (own_sizes (effect b.links i.instr) n q i) (handler_sizes (effect b.links i.instr) n i.rows) s (subst (λ o. Contains (size_steps_of b.links q n o) s) e c))
    where
      by_row : (row : Handler) × (Contains (filter (leaves_enough (effect b.links i.instr) n) i.rows) row × (landing_size row ≡ s)) → F.Leads B q n (place_of (effect b.links i.instr) (target_of i.instr) i.next) s
      by_row (row, (d, same)) =
          let x = kept (leaves_enough (effect b.links i.instr) n) i.rows row d in
          let y = kept (λ row. covers row (record { 0 = q })) b.handlers row (subst (λ rs. Contains rs row) (is.rows q i e) x.0) in
          subst (λ z. F.Leads B q n (place_of (effect b.links i.instr) (target_of i.instr) i.next) z) same
          (F.lands (record { among = y.0; under = y.1; within = within row.depth (left (effect b.links i.instr) n) x.1 }))

      by_part : Contains (own_sizes (effect b.links i.instr) n q i) s ⊎ Contains (handler_sizes (effect b.links i.instr) n i.rows) s → F.Leads B q n (place_of (effect b.links i.instr) (target_of i.instr) i.next) s
      by_part (inl d) = F.own (subst (λ xs. Contains xs s) (sym (own_same (effect b.links i.instr) n q i)) d)
      by_part (inr d) = by_row (mapped landing_size (filter (leaves_enough (effect b.links i.instr) n) i.rows) s d)

  led : (q n : ℕ) (i : Ins) → b.at q ≡ Some i → {s : SizeStep} → F.Leads B q n (place_of (effect b.links i.instr) (target_of i.instr) i.next) s → Contains (size_steps b q n) s
  led q n i e (F.own {s} c) = subst (λ o. Contains (size_steps_of b.links q n o) s) (sym e)
      (Contains-append_left (own_sizes (effect b.links i.instr) n q i) (handler_sizes (effect b.links i.instr) n i.rows) s (subst (λ xs. Contains xs s) (own_same (effect b.links i.instr) n q i) c))
  led q n i e (F.lands {row} l) = subst (λ o. Contains (size_steps_of b.links q n o) (landing_size row)) (sym e)
      (Contains-append_right (own_sizes (effect b.links i.instr) n q i) (handler_sizes (effect b.links i.instr) n i.rows) (landing_size row)
      (maps landing_size (filter (leaves_enough (effect b.links i.instr) n) i.rows) row
      (keeps (leaves_enough (effect b.links i.instr) n) i.rows row
      (subst (λ rs. Contains rs row) (sym (is.rows q i e)) (keeps (λ row. covers row (record { 0 = q })) b.handlers row l.among l.under))
      (is_within row.depth (left (effect b.links i.instr) n) l.within))))

  gets : (p q n : ℕ) → Sized b p q n → F.Gets B (p + 1) q n
  gets p _ _ (S.start i e) = F.start (place_of (effect b.links i.instr) (target_of i.instr) i.next) (place_here 0 i e)
  gets p _ _ (S.onward {q} {r} {n} {m} s l c i e) = from_ins (gets p q n s) (b.at q) refl
    where
      from_ins : F.Gets B (p + 1) q n → (o : Option Ins) → b.at q ≡ o → F.Gets B (p + 1) r m
      from_ins g None h = absurd (none_in_empty (sized r m) (subst (λ o. Contains (size_steps_of b.links q n o) (sized r m)) h c))
      from_ins g (Some j) h = F.goes g (omega arith) (place_here q j h) (leads q n j h (sized r m) c) (place_here r i e)

  sized_by : (p q n : ℕ) → F.Gets B (p + 1) q n → Sized b p q n
  sized_by p _ _ (F.start place e) = let (i, (h, same)) = ins_here 0 place e in S.start i h
  sized_by p _ _ (F.goes {q} {n} {s} {place} {there} g lt e l t) = from_ins (sized_by p q n g) (ins_here q place e) (ins_here s.to there t)
    where
      from_ins : Sized b p q n → (i : Ins) × ((b.at q ≡ Some i) × (place ≡ place_of (effect b.links i.instr) (target_of i.instr) i.next))
          → (j : Ins) × ((b.at s.to ≡ Some j) × (there ≡ place_of (effect b.links j.instr) (target_of j.instr) j.next)) → Sized b p s.to s.size
      from_ins z (i, (h, same)) (j, (k, other)) = S.onward z (omega arith) (led q n i h (subst (λ x. F.Leads B q n x s) same l)) j k

  -- beyond the table nothing more is gone on from
  capped : (limit q n : ℕ) → F.Gets B limit q n → F.Gets B (length table) q n
  capped limit _ _ (F.start place e) = F.start place e
  capped limit _ _ (F.goes {q} {n} {s} {place} {there} g lt e l t) = F.goes (capped limit q n g) (entry_in table q place e) e l t

  meets : (p : ℕ) → SizesMeet b p → F.SizesMeet B (p + 1)
  meets p (S.two {q} {n} {m} s t d) = F.two (gets p q n s) (gets p q m t) (differ n m d)

  met : (p : ℕ) → F.SizesMeet B (p + 1) → SizesMeet b p
  met p (F.two {q} {n} {m} g h d) = S.two (sized_by p q n g) (sized_by p q m h) (is_other n m d)

  deep : (p : ℕ) (row : Handler) → RowTooDeep b p row → F.TooDeep B (p + 1) row
  deep p row (S.deep {q} {n} {i} s l e c f) =
      let y = kept (λ row. covers row (record { 0 = q })) b.handlers row (subst (λ rs. Contains rs row) (is.rows q i e) c) in
      F.deep (record { gets = gets p q n s; low = (let h = l in omega (arith, h)); is = place_here q i e }) y.0 y.1 (beyond row.depth (left (effect b.links i.instr) n) f)

  too_deep : (p : ℕ) (row : Handler) → F.TooDeep B (p + 1) row → RowTooDeep b p row
  too_deep p row (F.deep {q} {n} {place} s c u h) = from_ins (ins_here q place s.is)
    where
      from_ins : (i : Ins) × ((b.at q ≡ Some i) × (place ≡ place_of (effect b.links i.instr) (target_of i.instr) i.next)) → RowTooDeep b p row
      from_ins (i, (e, same)) = S.deep (sized_by p q n s.gets) (let k = s.low in omega (arith, k)) e
          (subst (λ rs. Contains rs row) (sym (is.rows q i e)) (keeps (λ row. covers row (record { 0 = q })) b.handlers row c u))
          (is_beyond row.depth (left (effect b.links i.instr) n) (subst (λ x. n - x.takes < row.depth) same h))

  few : (p : ℕ) → Lacks b p → F.Lacks B (p + 1)
  few p (S.lacks {q} {n} {i} s l e f) = F.lacks (record { gets = gets p q n s; low = (let h = l in omega (arith, h)); is = place_here q i e })
      (beyond (length (effect b.links i.instr).takes + reads (effect b.links i.instr).above) n f)

  too_few : (p : ℕ) → F.Lacks B (p + 1) → Lacks b p
  too_few p (F.lacks {q} {n} {place} s h) = from_ins (ins_here q place s.is)
    where
      from_ins : (i : Ins) × ((b.at q ≡ Some i) × (place ≡ place_of (effect b.links i.instr) (target_of i.instr) i.next)) → Lacks b p
      from_ins (i, (e, same)) = S.lacks (sized_by p q n s.gets) (let k = s.low in omega (arith, k)) e
          (is_beyond (length (effect b.links i.instr).takes + reads (effect b.links i.instr).above) n (subst (λ x. n < x.needs) same h))

  disagrees : (p : ℕ) → SizesDisagree b p → F.Disagrees B (p + 1)
  disagrees p (T.meet m) = F.meet (meets p m)
  disagrees p (T.deep row d) = F.too_deep row (deep p row d)
  disagrees p (T.few f) = F.few (few p f)

  disagree : (p : ℕ) → F.Disagrees B (p + 1) → SizesDisagree b p
  disagree p (F.meet m) = T.meet (met p m)
  disagree p (F.too_deep row d) = T.deep row (too_deep p row d)
  disagree p (F.few f) = T.few (too_few p f)

  more_meet : (l m : ℕ) → l ≤ m → F.SizesMeet B l → F.SizesMeet B m
  more_meet l m h (F.two {q} {n} {m = k} g f d) = F.two (more_gets B l m h q n g) (more_gets B l m h q k f) d

  more_disagrees : (l m : ℕ) → l ≤ m → F.Disagrees B l → F.Disagrees B m
  more_disagrees l m h (F.meet x) = F.meet (more_meet l m h x)
  more_disagrees l m h (F.too_deep row d) = F.too_deep row (more_deep B l m h row d)
  more_disagrees l m h (F.few f) = F.few (more_lacks B l m h f)

  cap_stands : (l q n : ℕ) (place : Place) → F.Stands B l q n place → F.Stands B (length table) q n place
  cap_stands l q n place s = record { gets = capped l q n s.gets; low = entry_in table q place s.is; is = s.is }

  cap_disagrees : (l : ℕ) → F.Disagrees B l → F.Disagrees B (length table)
  cap_disagrees l (F.meet (F.two {q} {n} {m = k} g f d)) = F.meet (F.two (capped l q n g) (capped l q k f) d)
  cap_disagrees l (F.too_deep row (F.deep {q} {n} {place} s c u h)) = F.too_deep row (F.deep (cap_stands l q n place s) c u h)
  cap_disagrees l (F.few (F.lacks {q} {n} {place} s h)) = F.few (F.lacks (cap_stands l q n place s) h)

  is_least : (p : ℕ) → F.IsFirst B p → IsLeast (SizesDisagree b) p
  is_least p f = record { holds = disagree p f.here; least = λ m lt d. f.below (more_disagrees (m + 1) p (omega arith) (disagrees m d)) }

  tells : (s : Sizes) → F.Tells B s → TellsSizes b s
  tells (sizes.Agree t) x = record {
    sound = λ pc n e. sized_by b.size pc n (more_gets B (length table) (b.size + 1) is.long pc n (x.sound pc n e));
    whole = λ p pc n s. x.whole pc n (capped (p + 1) pc n (gets p pc n s));
    agree = λ p d. x.agrees (cap_disagrees (p + 1) (disagrees p d));
  }
  tells (sizes.Meet p) x = record { first = is_least p x.first; meet = met p x.meet }
  tells (sizes.TooDeep p n) x = record {
    first = is_least p x.first;
    apart = λ m. x.none (meets p m);
    deep = record {
      holds = record { row = x.deep.row; is = x.deep.is; deep = too_deep p x.deep.row x.deep.deep };
      least = λ m lt d. x.least m lt (record { row = d.row; is = d.is; deep = deep p d.row d.deep });
    };
  }
  tells (sizes.TooFew p) x = record { first = is_least p x.first; apart = λ m. x.none (meets p m); shallow = λ row d. x.shallow row (deep p row d); few = too_few p x.few }

  tells_up_to : (p : ℕ) (s : Sizes) → TellsBelow B (p + 1) s → TellsSizesUpTo b p s
  tells_up_to p (sizes.Agree t) x = record {
    sound = λ pc n e. sized_by p pc n (x.sound pc n e);
    whole = λ pc n z. x.whole pc n (gets p pc n z);
    agree = λ d. x.agrees (disagrees p d);
  }
  tells_up_to p (sizes.Meet q) x = disagree p x
  tells_up_to p (sizes.TooDeep q row) x = disagree p x
  tells_up_to p (sizes.TooFew q) x = disagree p x

pub tables_tell_up_to : (b : Block) (table : List (Option Place)) → HasPlaces b table → (p : ℕ) (s : Sizes)
    → TellsBelow (body b table) (p + 1) s → TellsSizesUpTo b p s
tables_tell_up_to b table is p s x = tells_up_to b table is p s x

pub tables_tell : (b : Block) → TablesTell b
tables_tell b table is s x = tells b table is s x
