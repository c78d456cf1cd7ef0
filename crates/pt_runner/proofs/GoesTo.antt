-- A run of code on its way: where it comes to, what it wrote and what it did so far.
use Rattle.std.proofs.Common.{arith, ◌≡◌, ℕ, ◌+◌, max, List, ◌++◌, refl, sym, ap, subst, append_assoc}
use Rattle.sem_code.specs.slots.Slots as slots
use Rattle.sem_run.specs.run.Machine.{BlockId, Machine}
use Rattle.sem_run.specs.run.Events.{starts}
use Rattle.sem_run.specs.run.Host.{Host}
use Rattle.sem_run.specs.run.Run.{Write}
use Rattle.pt_bare_runs.specs.Strides as bare
use Rattle.pt_bare_runs.specs.Strides.{State, Stride, goes, stride, logged, start, Outcome, outcome_behind, Comes, Runs}
use Rattle.pt_bare_runs.specs.Laws as laws
use Rattle.pt_bare_runs.specs.Laws.{Reaches}
use Rattle.pt_bare_writes.specs.Fronts.{WritesFirst, beyond}
use Rattle.pt_runner.specs.Work.{Work, no_work, both, work_of, Does, ends_so, goes_on, RunDoes, DoesOneWork}

-- work is done one after the other
pub both_none : (w : Work) → both w no_work ≡ w
both_none w =
    let same : w.instructions + 0 ≡ w.instructions = omega arith in
    let deep : max w.depth 0 ≡ w.depth = omega arith in λ i. record { instructions = same i; depth = deep i }

pub none_both : (w : Work) → both no_work w ≡ w
none_both w =
    let same : 0 + w.instructions ≡ w.instructions = omega arith in
    let deep : max 0 w.depth ≡ w.depth = omega arith in λ i. record { instructions = same i; depth = deep i }

pub both_assoc : (u v w : Work) → both (both u v) w ≡ both u (both v w)
both_assoc u v w =
    let same : (u.instructions + v.instructions) + w.instructions ≡ u.instructions + (v.instructions + w.instructions) = omega arith in
    let deep : max (max u.depth v.depth) w.depth ≡ max u.depth (max v.depth w.depth) = omega arith in λ i. record { instructions = same i; depth = deep i }

module _ {V N W : Type 0} (machine : Machine (slots.State V) V) (host : Host N V W) (n : ℕ) where
  abbrev Here : Type 0
  Here = State (slots.State V) N V W

  abbrev Strides : Type 0
  Strides = Stride (slots.State V) N V W

  -- from a stride the run comes to a state; what it wrote and did before that
  pub data GoesTo : Strides → List Write → Here → Work → Type 0 where
    there : (ws : List Write) (s : Here) → GoesTo (goes ws s) ws s no_work
    further : (x : Strides) (ws : List Write) (s : Here) (k : Work) (vs : List Write) (t : Here) → GoesTo x ws s k
        → stride machine host n s ≡ goes vs t → GoesTo x (ws ++ vs) t (both k (work_of machine host n s))

  abbrev First : Strides → List Write → Type 0
  First x ws = WritesFirst machine host n x ws

  abbrev Works : Strides → Outcome V W → Work → Type 0
  Works x o k = Does machine host n x o k

  -- a run that does work comes to its outcome
  pub comes : (x : Strides) (o : Outcome V W) (k : Work) → Works x o k → Comes machine host n x o
  comes _ _ _ (ends_so ws u e) = bare.ends_so ws u e
  comes _ _ _ (goes_on ws s o k d) = bare.goes_on ws s o (comes (stride machine host n s) o k d)

  pub runs_so : (b : BlockId) (x : N) (w : W) (o : Outcome V W) (k : Work) → RunDoes machine host n b x w o k → Runs machine host n b x w o
  runs_so b x w o k d = comes (goes (logged machine host starts (start machine host b x w)) (start machine host b x w)) o k d

  -- and there is one outcome, and one work
  one_work : (x : Strides) (o p : Outcome V W) (k l : Work) → Works x o k → Works x p l → (o ≡ p) × (k ≡ l)
  one_work _ _ _ _ _ (ends_so ws u e) (ends_so _ _ _) = (refl, refl)
  one_work _ _ _ _ _ (goes_on ws s o k c) (goes_on _ _ p l d) =
      let same = one_work (stride machine host n s) o p k l c d in (ap (outcome_behind ws) same.0, ap (both (work_of machine host n s)) same.1)

  pub does_one_work : (b : BlockId) (x : N) (w : W) → DoesOneWork machine host n b x w
  does_one_work b x w o p k l c d = one_work _ o p k l c d

  -- what comes behind the state comes behind what was written and done
  pub does_behind : (x : Strides) (ws : List Write) (s : Here) (k : Work) → GoesTo x ws s k → (o : Outcome V W) (l : Work)
      → Works (stride machine host n s) o l → Works x (outcome_behind ws o) (both k (both (work_of machine host n s) l))
  does_behind _ _ _ _ (there ws s) o l d =
      subst (Works (goes ws s) (outcome_behind ws o)) (sym (none_both (both (work_of machine host n s) l))) (goes_on ws s o l d)
  does_behind _ _ _ _ (further x ws s k vs t g e) o l d =
      let more : Work = both (work_of machine host n t) l in
      let behind : Works (stride machine host n s) (outcome_behind vs o) more
      = subst (λ y. Works y (outcome_behind vs o) more) (sym e) (goes_on vs t o l d) in
      let all : Works x (outcome_behind ws (outcome_behind vs o)) (both k (both (work_of machine host n s) more))
      = does_behind x ws s k g (outcome_behind vs o) more behind in
      subst (Works x (outcome_behind (ws ++ vs) o)) (sym (both_assoc k (work_of machine host n s) more))
      (subst (λ us. Works x (record o { written = us }) (both k (both (work_of machine host n s) more))) (sym (append_assoc ws vs o.written)) all)

  pub writes_behind : (x : Strides) (ws : List Write) (s : Here) (k : Work) → GoesTo x ws s k → (us : List Write) → First (stride machine host n s) us
      → First x (ws ++ us)
  writes_behind _ _ _ _ (there ws s) us f = beyond ws s us f
  writes_behind _ _ _ _ (further x ws s k vs t g e) us f =
      let behind : First (stride machine host n s) (vs ++ us) = subst (λ y. First y (vs ++ us)) (sym e) (beyond vs t us f) in
      subst (First x) (sym (append_assoc ws vs us)) (writes_behind x ws s k g (vs ++ us) behind)

  reaches_from : (x : Strides) (ws : List Write) (s : Here) (k : Work) → GoesTo x ws s k → (vs : List Write) (a : Here) → x ≡ goes vs a
      → Reaches machine host n a s
  reaches_from _ _ _ _ (there ws s) vs a e = let same : s ≡ a = cc in subst (λ t. Reaches machine host n a t) (sym same) laws.here
  reaches_from _ _ _ _ (further x ws s k us t g e) vs a is = laws.further s t us (reaches_from x ws s k g vs a is) e

  pub reaches : (vs : List Write) (a : Here) (ws : List Write) (s : Here) (k : Work) → GoesTo (goes vs a) ws s k → Reaches machine host n a s
  reaches vs a ws s k g = reaches_from (goes vs a) ws s k g vs a refl
