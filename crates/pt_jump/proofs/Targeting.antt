-- What is told of slots answers a jump.
use Rattle.std.proofs.Common.{◌≡◌, ◌⊎◌, inl, inr, ℕ, zero, suc, max, ◌-◌, ◌<◌, ◌≤◌, Bool, true, false, not, ◌&&◌, nat_eq, [], ◌∷◌, length, Option, Some, None, refl, sym, ap, ◌∙◌, subst, arith}
use Rattle.std.specs.Prelude.{Contains, MatchBool, is_some, slice_get}
use Rattle.std.specs.Option.{unwrap_or}
use Rattle.std.proofs.lemmas.Bool.{cases_order, eq-eqb, eqb-true, false≢true}
use Rattle.pt_instr.specs.declared.kinds.Kind.{Kind}
use Rattle.pt_instr.specs.declared.kinds.Kind.TheVariants.{Pending}
use Rattle.pt_instr.specs.Effects.{Kinds}
use Rattle.sem_fits.specs.fits.Block.{Block}
use Rattle.sem_fits.specs.fits.Places.{Gets}
use Rattle.sem_fits.specs.fits.Leaves as L
use Rattle.sem_fits.specs.fits.Leaves.{Common}
use Rattle.sem_fits.specs.fits.Fits.{IsLeast}
use Rattle.sem_fits.specs.fits.Jumps as J
use Rattle.sem_fits.specs.fits.Jumps.{Answer, Into, Jumps, Starts, ThroughFinally, into_block, lands, no_statement, out_of_finally}
use Rattle.pt_jump.specs.Slots as S
use Rattle.pt_jump.specs.Slots.{AnswersAt, EndsHeld, GetsMany, IsApart, IsHeld, IsTogether, SlotsTold, TellsSlots}
use Rattle.pt_jump.specs.Targets.{first_on, starts_on}
use Rattle.pt_jump.proofs.Firsts.{Among, is_low, is_one, none_on}

-- where a slot is in common, so are those below it
lower : {b : Block} {p d e q r : ℕ} → e ≤ d → Common b p d q r → Common b p e q r
lower le (L.kept g l) = L.kept g (omega (arith, le, l))
lower le L.same = L.same
lower le (L.back c) = L.back (lower le c)
lower le (L.along c d) = L.along (lower le c) (lower le d)

kind_at : (ks : Kinds) (d : ℕ) → d < length ks → (k : Kind) × (slice_get ks d ≡ Some k)
kind_at [] d l = absurd (omega (arith, l))
kind_at (k ∷ ks) zero l = (k, refl)
kind_at (k ∷ ks) (suc d) l = kind_at ks d (omega (arith, l))

both : (x y : Bool) → (x && y) ≡ true → (x ≡ true) × (y ≡ true)
both true true e = (refl, refl)
both true false e = absurd (false≢true e)
both false y e = absurd (false≢true e)

some_of : {X : Type 0} (o : Option X) → is_some o ≡ true → (x : X) × (o ≡ Some x)
some_of (Some x) e = (x, refl)
some_of None e = absurd (false≢true e)

-- of no slots none is apart
pub none_apart : (b : Block) (from to n : ℕ) → n ≡ 0 → IsTogether b from to n
none_apart b from to n e = subst (IsTogether b from to) (sym e) S.none

-- of more slots the topmost is asked
pub top_apart : (b : Block) (from to n : ℕ) → (n ≡ 0 → ⊥) → (t : Bool)
    → MatchBool t (Common b b.size (n - 1) from to) (Common b b.size (n - 1) from to → ⊥)
    → MatchBool (not t) (IsApart b from to n) (IsTogether b from to n)
top_apart b from to zero e t m = absurd (e refl)
top_apart b from to (suc n) e true m =
    S.topmost (subst (λ d. Common b b.size d from to) (let f : suc n - 1 ≡ n = omega arith in f) m)
top_apart b from to (suc n) e false m = record {
  slot = n;
  last = refl;
  apart = subst (λ d. Common b b.size d from to → ⊥) (let f : suc n - 1 ≡ n = omega arith in f) m;
}

shared : (b : Block) (from to n : ℕ) → IsTogether b from to n → (d : ℕ) → d < n → Common b b.size d from to
shared b from to _ S.none d l = absurd (omega (arith, l))
shared b from to _ (S.topmost {slot} c) d l = lower (let le : d ≤ slot = omega (arith, l) in le) c

module _ (b : Block) (t : SlotsTold) (tells : TellsSlots b t) (from : ℕ) (ks : Kinds) (got : Gets b b.size from ks) (line : ℕ) where
  -- a statement that starts on the line is told
  told : (pc : ℕ) → Starts b line pc → starts_on t line (record { pc = record { 0 = pc }; line = record { 0 = line } }) ≡ true
  told pc s = ap (λ x. x && is_some (t.count pc)) (eq-eqb line line refl) ∙ ap (λ o. is_some o) (tells.whole pc s.kinds s.gets)

  -- what is told starts there
  starts : (pc : ℕ) → Among t line b.starts pc → Starts b line pc
  starts pc a =
      let on = both (nat_eq a.start.line.0 line) (is_some (t.count a.start.pc.0)) a.on in
      let n = some_of (t.count a.start.pc.0) on.1 in
      let g = tells.sound a.start.pc.0 n.0 n.1 in
      let same_line : a.start.line.0 ≡ line = eqb-true a.start.line.0 line on.0 in
      record {
        kinds = g.kinds;
        gets = subst (λ q. Gets b b.size q g.kinds) a.at g.gets;
        listed = subst (λ q. Contains b.starts (record { pc = record { 0 = q }; line = record { 0 = line } })) a.at
            (subst (λ m. Contains b.starts (record { pc = record { 0 = a.start.pc.0 }; line = record { 0 = m } })) same_line a.listed);
      }

  module _ (to : ℕ) (ls : Kinds) (least : IsLeast (Starts b line) to) (gets : Gets b b.size to ls) where
    -- the topmost that holds a completion, of either place
    through : (m n : ℕ) → IsHeld ks m → IsHeld ls n → IsApart b from to (max m n) → ThroughFinally b from to ks ls
    through m n hm hn e = by_place e.slot e.last e.apart (cases_order m n)
      where
        of_from : (slot : ℕ) → m ≡ suc slot → (Common b b.size slot from to → ⊥) → (m ≡ 0) ⊎ EndsHeld ks m → ThroughFinally b from to ks ls
        of_from slot is none (inl z) = absurd (omega (arith, z, is))
        of_from slot is none (inr x) = J.left slot (subst (λ d. slice_get ks d ≡ Some Pending) (let last = x.last in omega (arith, last, is)) x.holds) none

        of_to : (slot : ℕ) → n ≡ suc slot → (Common b b.size slot from to → ⊥) → (n ≡ 0) ⊎ EndsHeld ls n → ThroughFinally b from to ks ls
        of_to slot is none (inl z) = absurd (omega (arith, z, is))
        of_to slot is none (inr x) = J.entered slot (subst (λ d. slice_get ls d ≡ Some Pending) (let last = x.last in omega (arith, last, is)) x.holds) none

        by_place : (slot : ℕ) → max m n ≡ suc slot → (Common b b.size slot from to → ⊥) → (m ≡ n) ⊎ ((m < n) ⊎ (n < m)) → ThroughFinally b from to ks ls
        by_place slot is none (inl o) = of_from slot (omega (arith, is, o)) none hm.ends
        by_place slot is none (inr (inl o)) = of_to slot (omega (arith, is, o)) none hn.ends
        by_place slot is none (inr (inr o)) = of_from slot (omega (arith, is, o)) none hm.ends

    not_through : (m n : ℕ) → IsHeld ks m → IsHeld ls n → IsTogether b from to (max m n) → ThroughFinally b from to ks ls → ⊥
    not_through m n hm hn e (J.left d is none) = none (shared b from to (max m n) e d (let l = hm.among d is in omega (arith, l)))
    not_through m n hm hn e (J.entered d is none) = none (shared b from to (max m n) e d (let l = hn.among d is in omega (arith, l)))

    enters : IsApart b from to (length ls) → Into b from to ls
    enters e = let k = kind_at ls e.slot (let last = e.last in omega (arith, last)) in record { slot = e.slot; kind = k.0; is = k.1; apart = e.apart }

    size_is : S.size_at t to ≡ length ls
    size_is = ap (λ o. unwrap_or o 0) (tells.whole to ls gets)

    clear : IsTogether b from to (S.held_at t from to) → ThroughFinally b from to ks ls → ⊥
    clear h = not_through (t.held from) (t.held to) (tells.held from ks got) (tells.held to ls gets) h

    jumps : (a : Answer) → AnswersAt b t from to a → Jumps b from ks line a
    jumps _ (S.through h) = J.through to ls least gets (through (t.held from) (t.held to) (tells.held from ks got) (tells.held to ls gets) h)
    jumps _ (S.enters h e) = J.enters to ls least gets (clear h) (enters (subst (IsApart b from to) size_is e))
    jumps _ (S.goes h e) = subst (λ n. Jumps b from ks line (lands to n)) (sym size_is)
        (J.goes to ls least gets (clear h) (shared b from to (length ls) (subst (IsTogether b from to) size_is e)))

  pub nowhere : first_on t line None b.starts ≡ None → Jumps b from ks line no_statement
  nowhere e = J.nowhere (λ pc s. none_on t line None b.starts e _ s.listed (told pc s))

  pub somewhere : (to : ℕ) → first_on t line None b.starts ≡ Some to → (a : Answer) → AnswersAt b t from to a → Jumps b from ks line a
  somewhere to e a answers =
      let among : Among t line b.starts to =
      elim (is_one t line None b.starts to e) [ inl f ↦ absurd (let no : None ≡ Some to = f in cc) | inr x ↦ x ] in
      let s = starts to among in
      jumps to s.kinds (record {
        holds = s;
        least = λ m lt z. let h = is_low t line None b.starts to e m (inr (record {
          start = record { pc = record { 0 = m }; line = record { 0 = line } };
          listed = z.listed;
          on = told m z;
          at = refl;
        })) in omega (arith, h, lt);
      }) s.gets a answers

-- what is asked of two slots is the answer at a place
module _ (b : Block) (t : SlotsTold) (from to h : ℕ) (held : h ≡ S.held_at t from to) (x : Bool)
    (of_held : MatchBool x (IsApart b from to h) (IsTogether b from to h)) where
  pub answers_through : x ≡ true → AnswersAt b t from to out_of_finally
  answers_through e = S.through (subst (IsApart b from to) held (subst (λ y. MatchBool y (IsApart b from to h) (IsTogether b from to h)) e of_held))

  together : x ≡ false → IsTogether b from to (S.held_at t from to)
  together e = subst (IsTogether b from to) held (subst (λ y. MatchBool y (IsApart b from to h) (IsTogether b from to h)) e of_held)

  module _ (n : ℕ) (size : n ≡ S.size_at t to) (y : Bool) (of_size : MatchBool y (IsApart b from to n) (IsTogether b from to n)) where
    pub answers_enters : x ≡ false → y ≡ true → AnswersAt b t from to into_block
    answers_enters e f = S.enters (together e)
        (subst (IsApart b from to) size (subst (λ z. MatchBool z (IsApart b from to n) (IsTogether b from to n)) f of_size))

    pub answers_goes : x ≡ false → y ≡ false → AnswersAt b t from to (lands to n)
    answers_goes e f = subst (λ m. AnswersAt b t from to (lands to m)) (sym size) (S.goes (together e)
        (subst (IsTogether b from to) size (subst (λ z. MatchBool z (IsApart b from to n) (IsTogether b from to n)) f of_size)))
