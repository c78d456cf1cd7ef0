-- The exits of a reader.
use Rattle.std.proofs.Common.{◌≡◌, List, [], ◌∷◌, ◌++◌, Option, Some, Bool, true, false, Result, Ok, Err, IsTrue, ◌↔◌, ◌≤◌, ◌<◌, length, length-append, refl, sym, ◌∙◌, ap, subst, arith}
use Rattle.std.specs.Result.{IsErrAnd}
use Rattle.std.proofs.lemmas.Result.{err_from_is_err_and}
use Rattle.pt_readers.specs.declared.halt.Halt.{Halt}
use Rattle.pt_readers.specs.declared.halt.Halt.TheVariants.{Unexpected, Limit, Memory}
use Rattle.pt_readers.specs.Reading.{next_of, behind, Part, Found, Refused, Carries}
use Rattle.pt_readers.specs.Settled.{Fails, Settled}
use Rattle.pt_readers.proofs.Readers.{Binds, Shifts, first_refused, token_carries, over_refused, then_on, then_carries, left}

-- the next token as the code tells it
pub peeked : {T : Type 0} {u t : T} {next : Option T} → Some u ≡ next → u ≡ t → next ≡ Some t
peeked h k = sym h ∙ ap (λ x. Some x) k

-- the tokens where this one is next
pub at_next : {T : Type 0} {t : T} (ts : List T) → next_of ts ≡ Some t → ts ≡ t ∷ behind ts
at_next [] h = cc
at_next (u ∷ us) h = cc

pub some_more : {T : Type 0} {t : T} (ts : List T) → next_of ts ≡ Some t → length (behind ts) < length ts
some_more [] h = cc
some_more (u ∷ us) h = omega arith

-- what a `?` returns
pub passed : {T A X : Type 0} (P : Part T A) (see : X → A) (ts rest : List T) (r : Result X Halt) (e : Halt)
    → IsErrAnd r (λ y. y ≡ e) → Fails P ts rest e → Settled P see ts rest r
passed P see ts rest r e h f =
    let p = err_from_is_err_and r h in
    subst (Settled P see ts rest) (sym p.1) (subst (Fails P ts rest) (sym p.2) f)

pub carried : {T A : Type 0} {P Q : Part T A} {ts mid : List T} (rest : List T) (e : Halt) → Carries P ts Q mid → Fails Q mid rest e → Fails P ts rest e
carried rest Unexpected c f = c.refused false _ f
carried rest Limit c f = c.refused true _ f
carried rest Memory c f = tt

-- where the last reader's answer is the whole answer
pub carried_all : {T A X : Type 0} {P Q : Part T A} (see : X → A) {ts mid : List T} (rest : List T) (r : Result X Halt)
    → Carries P ts Q mid → Settled Q see mid rest r → Settled P see ts rest r
carried_all see rest (Ok x) c f = c.found _ _ f
carried_all see rest (Err e) c f = carried rest e c f

pub first_fails : {T B A : Type 0} {Q : Part T B} {K : B → List T → A → List T → Type 0} {P : Part T A} (ts rest : List T)
    → Binds Q K P → (e : Halt) → Fails Q ts rest e → Fails P ts rest e
first_fails ts rest b Unexpected f = first_refused b false _ _ f
first_fails ts rest b Limit f = first_refused b true _ _ f
first_fails ts rest b Memory f = tt

-- a `?` where a part of what is left is refused
pub fails_at : {T B A X : Type 0} (P : Part T A) (see : X → A) (ts rest : List T) {R : Part T A} {Q : Part T B} {K : B → List T → A → List T → Type 0} {mid : List T}
    (r : Result X Halt) (e : Halt) → IsErrAnd r (λ y. y ≡ e) → Carries P ts R mid → Binds Q K R → Fails Q mid rest e → Settled P see ts rest r
fails_at P see ts rest {mid = mid} r e h c b f = passed P see ts rest r e h (carried rest e c (first_fails mid rest b e f))

-- behind a part of what is left
pub goes_on : {T B A : Type 0} {P R : Part T A} {Q : Part T B} {K : B → List T → A → List T → Type 0} {ts mid rest : List T} {y : B}
    → Carries P ts R mid → Binds Q K R → Found Q mid y rest → Carries P ts (left R (K y)) rest
goes_on {mid = mid} {rest = rest} {y = y} c b f = then_on c (then_carries b mid y rest f)

pub found_at : {T A : Type 0} {P : Part T A} {ts us : List T} {x : A} {rest : List T} → ts ≡ us → Found P us x rest → Found P ts x rest
found_at {P = P} {x = x} {rest = rest} h f = subst (λ u. Found P u x rest) (sym h) f

pub refused_at : {T A : Type 0} {P : Part T A} {over : Bool} {ts us : List T} → ts ≡ us → Refused P over us us → Refused P over ts ts
refused_at {P = P} {over = over} h f = subst (λ u. Refused P over u u) (sym h) f

pub carries_at : {T A : Type 0} {P Q : Part T A} {ts us rest : List T} → ts ≡ us → Carries P us Q rest → Carries P ts Q rest
carries_at {P = P} {Q = Q} {rest = rest} h c = subst (λ u. Carries P u Q rest) (sym h) c

pub shift_carries : {T A : Type 0} {t : T} {Q P : Part T A} {ts : List T} → Shifts t Q P → next_of ts ≡ Some t → Carries P ts Q (behind ts)
shift_carries {ts = ts} b h = carries_at (at_next ts h) (token_carries b (behind ts))

pub over_refused_at : {T A : Type 0} (P : Part T A) (t : T) (ts : List T) → next_of ts ≡ Some t
    → ((more : List T) (x' : A) (rest' : List T) → P.reads (t ∷ more) x' rest' → P.stops x' (next_of rest') → P.fits x' → ⊥)
    → (more : List T) (y : A) → ((z : List T) → P.reads (t ∷ (more ++ z)) y z)
    → (w : List T) (x : A) → P.fits x → ((z : List T) → P.reads (w ++ z) x z) → Refused P true ts ts
over_refused_at P t ts h dead far y far_reads w x fits comp = refused_at (at_next ts h) (over_refused P t (behind ts) dead far y far_reads w x fits comp)

pub found_shorter : {T A : Type 0} {P : Part T A} {ts : List T} {x : A} {rest : List T} → Found P ts x rest → length rest ≤ length ts
found_shorter {ts = ts} {rest = rest} f = omega (arith, ap length f.whole, length-append f.front rest)

pub refused_shorter : {T A : Type 0} {P : Part T A} {over : Bool} {ts : List T} {rest : List T} → Refused P over ts rest → length rest ≤ length ts
refused_shorter {ts = ts} {rest = rest} f = omega (arith, ap length f.whole, length-append f.front rest)

pub is_not : {b : Bool} {P : Type 0} → IsTrue b ↔ P → b ≡ false → P → ⊥
is_not {b = true} e h p = cc
is_not {b = false} e h p = let k = e.1 p in cc

pub is_so : {b : Bool} {P : Type 0} → IsTrue b ↔ P → b ≡ true → P
is_so {b = true} e h = e.0 refl
is_so {b = false} e h = cc

-- what is read behind the next token, where the reader stands there
pub shift_on : {T A : Type 0} {t : T} {P Q R : Part T A} {ts mid rest : List T} → Carries P ts R mid → Shifts t Q R → next_of mid ≡ Some t → rest ≡ behind mid → Carries P ts Q rest
shift_on {P = P} {Q = Q} {ts = ts} {mid = mid} c b h k = subst (λ u. Carries P ts Q u) (sym k) (then_on c (shift_carries b h))
