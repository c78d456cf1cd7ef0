-- A jump has one answer in a block that fits.
use Rattle.std.proofs.Common.{◌≡◌, ◌⊎◌, inl, inr, ℕ, ◌<◌, length, refl, subst}
use Rattle.std.proofs.lemmas.Bool.{cases_order}
use Rattle.std.proofs.lemmas.Option.{slice_get_within}
use Rattle.pt_instr.specs.Effects.{Kinds}
use Rattle.sem_fits.specs.fits.Block.{Block}
use Rattle.sem_fits.specs.fits.Places.{Gets}
use Rattle.sem_fits.specs.fits.Leaves.{Common}
use Rattle.sem_fits.specs.fits.Fits.{IsLeast, Fits}
use Rattle.sem_fits.specs.fits.Jumps as J
use Rattle.sem_fits.specs.fits.Jumps.{Starts, ThroughFinally, Into, Answer, no_statement, out_of_finally, into_block, lands, Jumps}
use Rattle.sem_fits.proofs.fits.CommonSlots.{one_list}
use Rattle.law_code_jumps.specs.jump_answers.Laws.{HasOneAnswer}

one_least : {P : ℕ → Type 0} (m n : ℕ) → IsLeast P m → IsLeast P n → m ≡ n
one_least {P = P} m n f g = by_order (cases_order m n)
  where
    by_order : (m ≡ n) ⊎ ((m < n) ⊎ (n < m)) → m ≡ n
    by_order (inl e) = e
    by_order (inr (inl l)) = absurd (g.least m l f.holds)
    by_order (inr (inr l)) = absurd (f.least n l g.holds)

module _ (b : Block) (from : ℕ) (ks : Kinds) (line : ℕ) where
  -- the answer to a jump to a place with these slots
  data AnswerAt (to : ℕ) (ls : Kinds) : Answer → Type 0 where
    through : ThroughFinally b from to ks ls → AnswerAt to ls out_of_finally
    enters : (ThroughFinally b from to ks ls → ⊥) → Into b from to ls → AnswerAt to ls into_block
    goes : (ThroughFinally b from to ks ls → ⊥)
        → ((d : ℕ) → d < length ls → Common b b.size d from to) → AnswerAt to ls (lands to (length ls))

  data Found : Answer → Type 0 where
    nowhere : ((pc : ℕ) → Starts b line pc → ⊥) → Found no_statement
    somewhere : (to : ℕ) (ls : Kinds) (a : Answer) → IsLeast (Starts b line) to
        → Gets b b.size to ls → AnswerAt to ls a → Found a

  found : (a : Answer) → Jumps b from ks line a → Found a
  found _ (J.nowhere none) = nowhere none
  found _ (J.through to ls least g t) = somewhere to ls _ least g (through t)
  found _ (J.enters to ls least g n i) = somewhere to ls _ least g (enters n i)
  found _ (J.goes to ls least g n c) = somewhere to ls _ least g (goes n c)

  one_there : (to : ℕ) (ls : Kinds) (a c : Answer) → AnswerAt to ls a → AnswerAt to ls c → a ≡ c
  one_there to ls _ _ (through t) (through u) = refl
  one_there to ls _ _ (through t) (enters n i) = absurd (n t)
  one_there to ls _ _ (through t) (goes n c) = absurd (n t)
  one_there to ls _ _ (enters n i) (through t) = absurd (n t)
  one_there to ls _ _ (enters n i) (enters m j) = refl
  one_there to ls _ _ (enters n i) (goes m c) =
      absurd (i.apart (c i.slot (slice_get_within ls i.slot i.kind i.is)))
  one_there to ls _ _ (goes n c) (through t) = absurd (n t)
  one_there to ls _ _ (goes n c) (enters m i) =
      absurd (i.apart (c i.slot (slice_get_within ls i.slot i.kind i.is)))
  one_there to ls _ _ (goes n c) (goes m d) = refl

  module _ (fits : Fits b) where
    same_place : (to at : ℕ) (ls ms : Kinds) (a c : Answer) → to ≡ at → Gets b b.size to ls
        → Gets b b.size at ms → AnswerAt to ls a → AnswerAt at ms c → a ≡ c
    same_place to at ls ms a c e g h x y =
        let there : Gets b b.size at ls = subst (λ q. Gets b b.size q ls) e g in
        let lists : ls ≡ ms = one_list b fits there h in
        one_there at ms a c
        (subst (λ ns. AnswerAt at ns a) lists (subst (λ q. AnswerAt q ls a) e x)) y

    one_found : (a c : Answer) → Found a → Found c → a ≡ c
    one_found _ _ (nowhere none) (nowhere nil) = refl
    one_found _ _ (nowhere none) (somewhere to ls c least g x) = absurd (none to least.holds)
    one_found _ _ (somewhere to ls a least g x) (nowhere none) = absurd (none to least.holds)
    one_found _ _ (somewhere to ls a least g x) (somewhere at ms c low h y) =
        same_place to at ls ms a c (one_least to at least low) g h x y

pub one_answer : (b : Block) → HasOneAnswer b
one_answer b fits from ks line a c j k =
    one_found b from ks line fits a c (found b from ks line a j) (found b from ks line c k)
