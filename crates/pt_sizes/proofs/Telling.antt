-- What the end of a stage tells.
use Rattle.std.proofs.Common.{◌≡◌, ℕ, ◌+◌, ◌<◌, Bool, true, false, List, [], length, Option, Some, None, refl, sym, ◌∙◌, subst, arith, inl}
use Rattle.std.specs.Prelude.{Contains}
use Rattle.std.proofs.lemmas.Bool.{false≢true}
use Rattle.pt_ranges.specs.declared.handlers.Handler.{Handler}
use Rattle.pt_sizes.specs.declared.places.Place.{Place}
use Rattle.pt_sizes.specs.Flow as F
use Rattle.pt_sizes.specs.Flow.{Body, entry, sized, is_under, Gets, Stands, SizesMeet, TooDeep, Lacks, Disagrees, Agrees, RowTooDeep, IsFirst, IsTable, IsMeeting, IsDeepRow, IsLack}
use Rattle.pt_sizes.specs.Waiting.{Level, Waits, AllWait}
use Rattle.pt_sizes.specs.Search.{OpenNow, IsFirstTable, DeepBelow, IsLeastDeep}
use Rattle.pt_sizes.proofs.Tables.{none_in_empty, some_or_none}
use Rattle.pt_sizes.proofs.Adding.{get_in}
use Rattle.pt_sizes.proofs.Theory.{whole, one_size, deep_told, agrees, stage_none}

module _ (b : Body) where
  pub opening : (T : List (Option ℕ)) (levels : List Level) → IsFirstTable b.places b.first T → AllWait b.rows (length b.places) levels → OpenNow b 0 T [] levels false false
  opening T levels t i = record {
    sorted = i.sorted;
    opens = record {
      long = t.long;
      start = λ place e. inl (t.start place e);
      sound = λ q n e. sound q n (t.only q n e);
      stands = λ q n e none. stands q n (t.only q n e) none;
      due = λ s c. absurd (none_in_empty s c);
      known = i.known;
      rest = λ pc row lt c u. inl (i.whole pc row lt c u);
      deep_is = λ h. absurd (false≢true h);
      few_is = λ h. absurd (false≢true h);
      goes_on = λ q n place lt. absurd (omega arith);
    };
  }
    where
      sound : (q n : ℕ) → (q ≡ 0) × ((n ≡ b.first) × ((place : Place) × (entry b.places 0 ≡ Some place))) → Gets b 0 q n
      sound q n (e, (g, (place, is))) = subst (λ x. Gets b 0 x n) (sym e) (subst (λ x. Gets b 0 0 x) (sym g) (F.start place is))

      stands : (q n : ℕ) → (q ≡ 0) × ((n ≡ b.first) × ((place : Place) × (entry b.places 0 ≡ Some place))) → entry b.places q ≡ None → ⊥
      stands q n (e, (g, (place, is))) none = some_or_none place (sym is ∙ subst (λ x. entry b.places x ≡ None) e none)

  module _ (pc : ℕ) (T : List (Option ℕ)) (levels : List Level) (o : OpenNow b pc T [] levels false false) where
    first_at : pc < length b.places → Disagrees b (pc + 1) → IsFirst b pc
    first_at lt d = record { inside = lt; below = agrees b pc T (Waits levels) o.opens; here = d }

    pub tell_meet : pc < length b.places → SizesMeet b (pc + 1) → IsMeeting b pc
    tell_meet lt m = record { first = first_at lt (F.meet m); meet = m }

    module _ (T' : List (Option ℕ)) (levels' : List Level) (d f : Bool) (o' : OpenNow b (pc + 1) T' [] levels' d f) where
      pub tell_few : pc < length b.places → d ≡ false → f ≡ true → IsLack b pc
      tell_few lt e h = record {
        first = first_at lt (F.few (o'.opens.few_is h));
        none = one_size b (pc + 1) T' (Waits levels') d f o'.opens;
        shallow = λ row x. false≢true (sym e ∙ deep_told b (pc + 1) T' (Waits levels') d f o'.opens row x);
        few = o'.opens.few_is h;
      }

      from_table : (row : Handler) → Contains b.rows row → DeepBelow b.places T' (pc + 1) row → TooDeep b (pc + 1) row
      from_table row c x = F.deep (record { gets = o'.opens.sound x.at x.here.size x.here.has; low = x.low; is = x.here.stands }) c x.under x.here.deep

      to_table : (row : Handler) → TooDeep b (pc + 1) row → DeepBelow b.places T' (pc + 1) row
      to_table row (F.deep {q} {n} {place} s c u h) = record {
        at = q;
        low = s.low;
        under = u;
        here = record {
          size = n;
          place = place;
          has = whole b (pc + 1) T' (Waits levels') d f o'.opens q n s.gets;
          stands = s.is;
          deep = h;
        };
      }

      among : (row : Handler) → TooDeep b (pc + 1) row → Contains b.rows row
      among row (F.deep {q} {n} {place} s c u h) = c

      pub some_deep : d ≡ true → (row : Handler) × (Contains b.rows row × DeepBelow b.places T' (pc + 1) row)
      some_deep h = let x = o'.opens.deep_is h in (x.row, (among x.row x.deep, to_table x.row x.deep))

      pub tell_deep : pc < length b.places → (number : ℕ) → IsLeastDeep b.places b.rows T' (pc + 1) number → IsDeepRow b pc number
      tell_deep lt number l = let deep = from_table l.row (get_in b.rows number l.row l.is) l.deep in record {
        first = first_at lt (F.too_deep l.row deep);
        none = one_size b (pc + 1) T' (Waits levels') d f o'.opens;
        deep = record { row = l.row; is = l.is; deep = deep };
        least = λ n m r. l.least n r.row m r.is (to_table r.row r.deep);
      }

  pub tell_table : (pc : ℕ) (T : List (Option ℕ)) (levels : List Level) → pc ≡ length b.places → OpenNow b pc T [] levels false false → IsTable b T
  tell_table pc T levels e o = let o' = subst (λ n. OpenNow b n T [] levels false false) e o in record {
    sound = o'.opens.sound;
    whole = whole b (length b.places) T (Waits levels) false false o'.opens;
    agrees = agrees b (length b.places) T (Waits levels) o'.opens;
  }

  -- a place that no slots come to is passed
  module _ (pc : ℕ) (T : List (Option ℕ)) (levels : List Level) (o : OpenNow b pc T [] levels false false) where
    pub pass_none : entry T pc ≡ None → OpenNow b (pc + 1) T [] levels false false
    pass_none e = record { opens = stage_none b pc T (Waits levels) o.opens e; sorted = o.sorted }

    pub pass_no_place : entry b.places pc ≡ None → OpenNow b (pc + 1) T [] levels false false
    pass_no_place e = pass_none (by_entry (entry T pc) refl)
      where
        by_entry : (x : Option ℕ) → entry T pc ≡ x → entry T pc ≡ None
        by_entry None h = h
        by_entry (Some n) h = absurd (o.opens.stands pc n h e)
