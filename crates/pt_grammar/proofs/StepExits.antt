-- The exits of a reader that makes one step.
use Rattle.std.proofs.Common.{ℕ, List, Result, Ok, Err, sym, ◌≡◌, subst}
use Rattle.std.specs.Prelude.{IfOk}
use Rattle.std.specs.Result.{IsErrAnd}
use Rattle.std.proofs.lemmas.Result.{err_from_is_err_and}
use Rattle.pt_readers.specs.declared.halt.Halt.{Halt}
use Rattle.pt_readers.specs.Reading.{Part, Carries}
use Rattle.pt_grammar.specs.Nodes.{Gathered}
use Rattle.pt_readers.specs.Settled.{Fails}
use Rattle.pt_readers.proofs.Readers.{Binds}
use Rattle.pt_readers.proofs.Exits.{carried, first_fails}
use Rattle.pt_grammar.specs.ParameterSteps.{Steps, Held}

-- a `?` where a part of what is left is refused
pub step_fails : {T B A X : Type 0} (P : Part T A) (next : X → Part T A) (ts rest : List T) {R : Part T A} {Q : Part T B} {K : B → List T → A → List T → Type 0} {mid : List T}
    (r : Result X Halt) (e : Halt) → IsErrAnd r (λ y. y ≡ e) → Carries P ts R mid → Binds Q K R → Fails Q mid rest e → Steps P next ts rest r
step_fails P next ts rest {mid = mid} r e h c b f =
    let p = err_from_is_err_and r h in
    subst (Steps P next ts rest) (sym p.1) (subst (Fails P ts rest) (sym p.2) (carried rest e c (first_fails mid rest b e f)))

-- nothing is said of a value where there is none
pub none_ok : {X : Type 0} (F : X → Type 0) (r : Result X Halt) (e : Halt) → IsErrAnd r (λ y. y ≡ e) → IfOk r F
none_ok F r e h = let p = err_from_is_err_and r h in subst (λ v. IfOk v F) (sym p.1) tt

-- what is within any limits is within these
pub held_at : {X : Type 0} (see : X → Gathered) (g : Gathered) (r : Result X Halt) (room : ℕ) → Held room g → IfOk r (λ x. (d : ℕ) → Held d g → Held d (see x)) → IfOk r (λ x. Held room (see x))
held_at see g (Ok x) room held h = h room held
held_at see g (Err e) room held h = tt
