-- From the front of a list to the whole of it.
use Rattle.std.proofs.Common.{◌≡◌, ◌≢◌, List, [], ◌∷◌, ◌++◌, None, true, false, Result, Ok, Err, inl, inr, refl, sym, ◌∙◌, ap, subst, append_assoc, append-nil}
use Rattle.pt_readers.specs.declared.halt.Halt.{Halt}
use Rattle.pt_readers.specs.declared.halt.Halt.TheVariants.{Unexpected, Limit, Memory}
use Rattle.pt_readers.specs.Reading.{next_of, behind, Part, Found, Refused}
use Rattle.pt_readers.specs.Settled.{Settled}
use Rattle.pt_readers.specs.Whole.{Are, Begin, BeginWithin, Cut, NothingBeyond, IsRead, Tells}
use Rattle.pt_readers.proofs.Exits.{at_next}

abbrev pub seen : {X A : Type 0} → (X → A) → Result X Halt → Result A Halt
seen see (Ok x) = Ok (see x)
seen see (Err e) = Err e

-- A whole list has nothing behind it, and that goes on with nothing.
module _ {T A : Type 0} (P : Part T A) (at_end : (x : A) → P.stops x None) where
  through_is : (front more : List T) (t : T) (x : A) → Are P ((front ++ (t ∷ [])) ++ more) x → P.reads (front ++ (t ∷ more)) x []
  through_is front more t x d = rw append_assoc at d

  read_tells : (ts : List T) (x : A) (rest : List T) → Found P ts x rest → Tells P ts rest (Ok x)
  read_tells ts x rest f = (
    f.front,
    record { whole = f.whole; before = ([], x, rw append-nil here, f.fits); through = λ t more e (us, x', d, w). beyond t more e (us, x', d) },
    record { beyond = beyond; is = here; fits = f.fits; only = λ x' d. (f.only [] (inr refl) x' [] (rw append-nil d) (at_end x')).0 },
  )
    where
      here : Are P f.front x
      here = rw append-nil at (f.reads [])

      beyond : NothingBeyond P f.front rest
      beyond t more e (us, x', d) =
          let i = f.only (t ∷ us) (inl (sym (ap next_of e))) x' [] (through_is f.front us t x' d) (at_end x') in
          let k : [] ≡ t ∷ us = i.1 in cc

  unexpected_tells : (ts rest : List T) → Refused P false ts rest → Tells P ts rest (Err Unexpected)
  unexpected_tells ts rest f = (
    f.front,
    record { whole = f.whole; before = (f.completion ++ [], f.completed, f.completes [], f.fits); through = λ t more e (us, x', d, w). beyond t more e (us, x', d) },
    record { beyond = beyond; nothing = λ x d w. f.dead [] (inr refl) x [] (rw append-nil d) (at_end x) tt },
  )
    where
      beyond : NothingBeyond P f.front rest
      beyond t more e (us, x', d) = f.dead (t ∷ us) (inl (sym (ap next_of e))) x' [] (through_is f.front us t x' d) (at_end x') tt

  limit_tells : (ts rest : List T) → Refused P true ts rest → Tells P ts rest (Err Limit)
  limit_tells ts rest f =
      let b = f.beyond refl in (
        f.front,
        record {
          whole = f.whole;
          before = (f.completion ++ [], f.completed, f.completes [], f.fits);
          through = λ t more e (us, x', d, w). f.dead (t ∷ us) (sym (ap next_of e)) x' [] (through_is f.front us t x' d) (at_end x') w;
        },
        record { token = b.0; more = behind rest; next = at_next rest b.2; goes_on = (b.1 ++ [], b.3, rw append_assoc (b.4 [])) },
      )

  pub settled_tells : {X : Type 0} (see : X → A) (ts rest : List T) (r : Result X Halt) → Settled P see ts rest r → Tells P ts rest (seen see r)
  settled_tells see ts rest (Ok x) f = read_tells ts (see x) rest f
  settled_tells see ts rest (Err Unexpected) f = unexpected_tells ts rest f
  settled_tells see ts rest (Err Limit) f = limit_tells ts rest f
  settled_tells see ts rest (Err Memory) f = tt

-- two ways to cut a list
data Cuts {T : Type 0} (a b c d : List T) : Type 0 where
  same : a ≡ c → b ≡ d → Cuts a b c d
  later : (t : T) (u : List T) → c ≡ a ++ (t ∷ u) → b ≡ t ∷ (u ++ d) → Cuts a b c d
  earlier : (t : T) (u : List T) → a ≡ c ++ (t ∷ u) → d ≡ t ∷ (u ++ b) → Cuts a b c d

cuts : {T : Type 0} (a b c d : List T) → a ++ b ≡ c ++ d → Cuts a b c d
cuts [] b [] d h = same refl h
cuts [] b (y ∷ c) d h = later y c refl h
cuts (x ∷ a) b [] d h = earlier x a refl (sym h)
cuts {T} (x ∷ a) b (y ∷ c) d h = grown (cuts a b c d cc)
  where
    grown : Cuts a b c d → Cuts (x ∷ a) b (y ∷ c) d
    grown (same e k) = same (cc) k
    grown (later t u e k) = later t u (cc) k
    grown (earlier t u e k) = earlier t u (cc) k

module _ {T A : Type 0} (P : Part T A) where
  shorter : (front : List T) (t : T) (u : List T) → BeginWithin P (front ++ (t ∷ u)) → BeginWithin P (front ++ (t ∷ []))
  shorter front t u (more, x, d, w) = (u ++ more, x, rw append_assoc (rw append_assoc at d), w)

  one_cut : (ts a b c d : List T) → Cut P ts a b → Cut P ts c d → (a ≡ c) × (b ≡ d)
  one_cut ts a b c d p q = go (cuts a b c d (sym p.whole ∙ q.whole))
    where
      go : Cuts a b c d → (a ≡ c) × (b ≡ d)
      go (same e k) = (e, k)
      go (later t u e k) = absurd (p.through t _ k (shorter a t u (subst (BeginWithin P) e q.before)))
      go (earlier t u e k) = absurd (q.through t _ k (shorter c t u (subst (BeginWithin P) e p.before)))

  two_read : (front rest : List T) (x y : A) → IsRead P front rest x → IsRead P front rest y → x ≡ y
  two_read front rest x y p q = q.only x p.is

  -- apart from want of memory, the tokens have one answer
  pub one_answer : (ts rest rest' : List T) (r r' : Result A Halt) → Tells P ts rest r → Tells P ts rest' r' → r ≢ Err Memory → r' ≢ Err Memory → (r ≡ r') × (rest ≡ rest')
  one_answer ts rest rest' (Ok x) (Ok y) (f, p, i) (g, q, j) m n =
      let e = one_cut ts f rest g rest' p q in
      (ap (λ u. Ok u) (two_read g rest' x y (subst (λ u. IsRead P u rest' x) e.0 (subst (λ u. IsRead P f u x) e.1 i)) j), e.1)
  one_answer ts rest rest' (Err Unexpected) (Err Unexpected) (f, p, i) (g, q, j) m n = (refl, (one_cut ts f rest g rest' p q).1)
  one_answer ts rest rest' (Err Limit) (Err Limit) (f, p, i) (g, q, j) m n = (refl, (one_cut ts f rest g rest' p q).1)
  one_answer ts rest rest' (Ok x) (Err Unexpected) (f, p, i) (g, q, j) m n =
      let e = one_cut ts f rest g rest' p q in absurd (j.nothing x (subst (λ u. Are P u x) e.0 i.is) i.fits)
  one_answer ts rest rest' (Err Unexpected) (Ok x) (f, p, i) (g, q, j) m n =
      let e = one_cut ts f rest g rest' p q in absurd (i.nothing x (subst (λ u. Are P u x) (sym e.0) j.is) j.fits)
  one_answer ts rest rest' (Ok x) (Err Limit) (f, p, i) (g, q, j) m n =
      let e = one_cut ts f rest g rest' p q in absurd (i.beyond j.token j.more (e.1 ∙ j.next) (subst (λ u. Begin P (u ++ (j.token ∷ []))) (sym e.0) j.goes_on))
  one_answer ts rest rest' (Err Limit) (Ok x) (f, p, i) (g, q, j) m n =
      let e = one_cut ts f rest g rest' p q in absurd (j.beyond i.token i.more (sym e.1 ∙ i.next) (subst (λ u. Begin P (u ++ (i.token ∷ []))) e.0 i.goes_on))
  one_answer ts rest rest' (Err Unexpected) (Err Limit) (f, p, i) (g, q, j) m n =
      let e = one_cut ts f rest g rest' p q in absurd (i.beyond j.token j.more (e.1 ∙ j.next) (subst (λ u. Begin P (u ++ (j.token ∷ []))) (sym e.0) j.goes_on))
  one_answer ts rest rest' (Err Limit) (Err Unexpected) (f, p, i) (g, q, j) m n =
      let e = one_cut ts f rest g rest' p q in absurd (j.beyond i.token i.more (sym e.1 ∙ i.next) (subst (λ u. Begin P (u ++ (i.token ∷ []))) e.0 i.goes_on))
  one_answer ts rest rest' (Err Memory) r' p q m n = absurd (m refl)
  one_answer ts rest rest' (Ok x) (Err Memory) p q m n = absurd (n refl)
  one_answer ts rest rest' (Err Unexpected) (Err Memory) p q m n = absurd (n refl)
  one_answer ts rest rest' (Err Limit) (Err Memory) p q m n = absurd (n refl)
