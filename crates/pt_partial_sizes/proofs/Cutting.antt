-- What is cut off changes no size through the instructions before it.
use Rattle.std.proofs.Common.{◌≡◌, ◌⊎◌, inl, inr, ℕ, zero, suc, min, ◌+◌, ◌<◌, ◌≤◌, Bool, true, false, ◌&&◌, nat_le, nat_lt, if◌then◌else◌, List, [], ◌∷◌, ◌++◌, length, map, Option, Some, None, refl, sym, ap, ◌∙◌, subst, arith}
use Rattle.std.specs.Prelude.{Contains}
use Rattle.std.proofs.lemmas.Bool.Decides.{nat_tests}
use Rattle.std.proofs.lemmas.Option.{same_Some}
use Rattle.pt_ranges.specs.declared.handlers.Handler.{Handler}
use Rattle.pt_sizes.specs.declared.places.Place.{Place}
use Rattle.pt_sizes.specs.declared.places.SizeStep.{SizeStep}
use Rattle.pt_sizes.specs.declared.flow.Sizes.{Sizes}
use Rattle.pt_sizes.specs.declared.flow.Sizes.TheVariants as sizes
use Rattle.pt_sizes.specs.Flow as F
use Rattle.pt_sizes.specs.Flow.{Body, entry, is_under, left, own_steps, step_again, step_to, Tells}
use Rattle.pt_sizes.proofs.Tables.{entry_in, none_in_empty}
use Rattle.pt_sizes.proofs.Theory.{more_gets, more_deep, more_lacks}
use Rattle.pt_partial_sizes.specs.Cut.{AreCut, TellsBelow, cut_place, cut_row, stop}
use Rattle.pt_partial_sizes.proofs.CutSoFar.{low_or_high}

is_low : (q l : ℕ) → q < l → nat_lt q l ≡ true
is_low q l h = grind (arith, nat_tests)

is_high : (q l : ℕ) → l ≤ q → nat_lt q l ≡ false
is_high q l h = grind (arith, nat_tests)

both : (x y : Bool) → (x && y) ≡ true → (x ≡ true) × (y ≡ true)
both true true e = (refl, refl)
both true false e = absurd (cc)
both false y e = absurd (cc)

-- rows that are cut, among rows
in_map : {X Y : Type 0} (f : X → Y) (xs : List X) (x : X) → Contains xs x → Contains (map f xs) (f x)
in_map f [] x c = absurd (none_in_empty x c)
in_map f (y ∷ ys) x (zero, l, e) = (zero, (omega arith), ap f e)
in_map f (y ∷ ys) x (suc k, l, e) = let (j, m, g) = in_map f ys x (k, (omega (arith, l)), e) in (suc j, (omega (arith, m)), g)

record Of {X Y : Type 0} (f : X → Y) (xs : List X) (y : Y) : Type 0 where
  one : X
  listed : Contains xs one
  is : f one ≡ y

of_map : {X Y : Type 0} (f : X → Y) (xs : List X) (y : Y) → Contains (map f xs) y → Of f xs y
of_map f [] y c = absurd (none_in_empty y c)
of_map f (x ∷ xs) y (zero, l, e) = record { one = x; listed = (zero, (omega arith), refl); is = e }
of_map f (x ∷ xs) y (suc k, l, e) =
    let o = of_map f xs y (k, (omega (arith, l)), e) in
    record { one = o.one; listed = (let (j, m, g) = o.listed in (suc j, (omega (arith, m)), g)); is = o.is }

-- nothing goes on from what is cut off
none_on : (t : Bool) (s : SizeStep) → Contains (if t then [] ++ ([] ++ []) else []) s → ⊥
none_on true s c = none_in_empty s c
none_on false s c = none_in_empty s c

module _ (b : Body) (limit : ℕ) (c : List (Option Place)) (cut : AreCut limit b.places c) where
  abbrev B : Body
  B = record { places = c; rows = map (cut_row limit) b.rows; first = b.first }

  there : (q : ℕ) (place : Place) → q < limit → entry b.places q ≡ Some place → entry c q ≡ Some place
  there q place lt e = cut.each q ∙ (ap (cut_place limit q) e ∙ ap (λ t. Some (if t then place else stop)) (is_low q limit lt))

  some_there : (q : ℕ) (place : Place) → entry b.places q ≡ Some place → (p : Place) × (entry c q ≡ Some p)
  some_there q place e = (_, cut.each q ∙ ap (cut_place limit q) e)

  -- what stood at a place
  record Was (q : ℕ) (new : Place) : Type 0 where
    place : Place
    is : entry b.places q ≡ Some place
    same : new ≡ (if nat_lt q limit then place else stop)

  was : (q : ℕ) (new : Place) → entry c q ≡ Some new → Was q new
  was q new e = by_old (entry b.places q) refl
    where
      by_old : (o : Option Place) → entry b.places q ≡ o → Was q new
      by_old None f = absurd (let no : None ≡ Some new = sym (cut.each q ∙ ap (cut_place limit q) f) ∙ e in cc)
      by_old (Some p) f = record { place = p; is = f; same = same_Some _ _ (sym e ∙ (cut.each q ∙ ap (cut_place limit q) f)) }

  low_was : (q : ℕ) (new : Place) (w : Was q new) → q < limit → new ≡ w.place
  low_was q new w lt = w.same ∙ ap (λ t. if t then w.place else stop) (is_low q limit lt)

  high_was : (q : ℕ) (new : Place) (w : Was q new) → limit ≤ q → new ≡ stop
  high_was q new w le = w.same ∙ ap (λ t. if t then w.place else stop) (is_high q limit le)

  -- a row covers a place below the limit as it did, and no other
  under : (row : Handler) (q : ℕ) → q < limit → is_under row q ≡ true → is_under (cut_row limit row) q ≡ true
  under row q lt u = let (f, t) = both (nat_le row.from.0 q) (nat_lt q row.to.0) u in grind (arith, nat_tests)

  was_under : (row : Handler) (q : ℕ) → is_under (cut_row limit row) q ≡ true → (q < limit) × (is_under row q ≡ true)
  was_under row q u = let (f, t) = both (nat_le row.from.0 q) (nat_lt q (min row.to.0 limit)) u in (grind (arith, nat_tests), grind (arith, nat_tests))

  leads : (q n : ℕ) (place : Place) (s : SizeStep) → q < limit → F.Leads b q n place s → F.Leads B q n place s
  leads q n place s lt (F.own x) = F.own x
  leads q n place s lt (F.lands {row = row} l) = F.lands {row = cut_row limit row} (record {
    among = in_map (cut_row limit) b.rows row l.among;
    under = under row q lt l.under;
    within = l.within;
  })

  led : (q n : ℕ) (place : Place) (s : SizeStep) → F.Leads B q n place s → F.Leads b q n place s
  led q n place s (F.own x) = F.own x
  led q n place s (F.lands {row = row} l) = by_row (of_map (cut_row limit) b.rows row l.among) row refl l.under l.within
    where
      by_row : Of (cut_row limit) b.rows row → (r : Handler) → r ≡ row → is_under r q ≡ true → r.depth ≤ left place n
          → F.Leads b q n place (F.landing r)
      by_row o r e u h =
          subst (λ x. F.Leads b q n place (F.landing x)) (o.is ∙ sym e) (F.lands {row = o.one} (record {
            among = o.listed;
            under = (was_under o.one q (subst (λ x. is_under x q ≡ true) (e ∙ sym o.is) u)).1;
            within = subst (λ x. x.depth ≤ left place n) (e ∙ sym o.is) h;
          }))

  -- from what is cut off nothing leads on
  stuck : (q n : ℕ) (s : SizeStep) → limit ≤ q → F.Leads B q n stop s → ⊥
  stuck q n s le (F.own x) = none_on (nat_le 0 n) s x
  stuck q n s le (F.lands {row = row} l) =
      let o = of_map (cut_row limit) b.rows row l.among in
      let (lt, u) = was_under o.one q (subst (λ x. is_under x q ≡ true) (sym o.is) l.under) in
      omega (arith, lt, le)

  gets : (q n : ℕ) → F.Gets b limit q n → F.Gets B (length c) q n
  gets q n (F.start place e) = let (p, f) = some_there 0 place e in F.start p f
  gets _ _ (F.goes {q} {n} {s} {place} {there = next} g lt e l t) =
      let (p, f) = some_there s.to next t in
      F.goes (gets q n g) (entry_in c q place (there q place lt e)) (there q place lt e) (leads q n place s lt l) f

  got : (q n : ℕ) → F.Gets B (length c) q n → F.Gets b limit q n
  got q n (F.start place e) = let w = was 0 place e in F.start w.place w.is
  got _ _ (F.goes {q} {n} {s} {place} {there = next} g lt e l t) =
      by_limit (low_or_high q limit) (was q place e) (was s.to next t) (got q n g)
    where
      by_limit : (q < limit) ⊎ (limit ≤ q) → Was q place → Was s.to next → F.Gets b limit q n → F.Gets b limit s.to s.size
      by_limit (inl h) w v ih = F.goes ih h w.is (led q n w.place s (subst (λ x. F.Leads B q n x s) (low_was q place w h) l)) v.is
      by_limit (inr h) w v ih = absurd (stuck q n s h (subst (λ x. F.Leads B q n x s) (high_was q place w h) l))

  stands : (q n : ℕ) (place : Place) → F.Stands b limit q n place → F.Stands B (length c) q n place
  stands q n place s = record {
    gets = gets q n s.gets;
    low = entry_in c q place (there q place s.low s.is);
    is = there q place s.low s.is;
  }

  disagrees : F.Disagrees b limit → F.Disagrees B (length c)
  disagrees (F.meet (F.two {q} {n} {m} g h d)) = F.meet (F.two (gets q n g) (gets q m h) d)
  disagrees (F.too_deep row (F.deep {q} {n} {place} s among u more)) =
      F.too_deep (cut_row limit row) (F.deep (stands q n place s) (in_map (cut_row limit) b.rows row among) (under row q s.low u) more)
  disagrees (F.few (F.lacks {q} {n} {place} s lt)) = F.few (F.lacks (stands q n place s) lt)

  disagreed : F.Disagrees B (length c) → F.Disagrees b limit
  disagreed (F.meet (F.two {q} {n} {m} g h d)) = F.meet (F.two (got q n g) (got q m h) d)
  disagreed (F.too_deep row (F.deep {q} {n} {place} s among u more)) =
      let o = of_map (cut_row limit) b.rows row among in
      let (lt, v) = was_under o.one q (subst (λ x. is_under x q ≡ true) (sym o.is) u) in
      let w = was q place s.is in
      F.too_deep o.one (F.deep {place = w.place} (record { gets = got q n s.gets; low = lt; is = w.is }) o.listed v
      (subst (λ x. left w.place n < x.depth) (sym o.is) (subst (λ x. left x n < row.depth) (low_was q place w lt) more)))
  disagreed (F.few (F.lacks {q} {n} {place} s lt)) = by_limit (low_or_high q limit) (was q place s.is)
    where
      by_limit : (q < limit) ⊎ (limit ≤ q) → Was q place → F.Disagrees b limit
      by_limit (inl h) w = F.few (F.lacks (record { gets = got q n s.gets; low = h; is = w.is })
          (subst (λ x. n < x.needs) (low_was q place w h) lt))
      by_limit (inr h) w = absurd (let no : n < 0 = subst (λ x. n < x.needs) (high_was q place w h) lt in omega (arith, no))

  -- what disagrees first does so in the whole body
  capped : (pc : ℕ) → F.IsFirst B pc → F.Disagrees B (length c)
  capped pc f = more (let h = f.inside in omega (arith, h)) f.here
    where
      more : pc + 1 ≤ length c → F.Disagrees B (pc + 1) → F.Disagrees B (length c)
      more h (F.meet (F.two {q} {n} {m} g k d)) = F.meet (F.two (more_gets B (pc + 1) (length c) h q n g) (more_gets B (pc + 1) (length c) h q m k) d)
      more h (F.too_deep row d) = F.too_deep row (more_deep B (pc + 1) (length c) h row d)
      more h (F.few l) = F.few (more_lacks B (pc + 1) (length c) h l)

  pub tells : (s : Sizes) → Tells B s → TellsBelow b limit s
  tells (sizes.Agree table) t = record {
    sound = λ pc n e. got pc n (t.sound pc n e);
    whole = λ pc n g. t.whole pc n (gets pc n g);
    agrees = λ d. t.agrees (disagrees d);
  }
  tells (sizes.Meet pc) t = disagreed (capped pc t.first)
  tells (sizes.TooDeep pc row) t = disagreed (capped pc t.first)
  tells (sizes.TooFew pc) t = disagreed (capped pc t.first)
