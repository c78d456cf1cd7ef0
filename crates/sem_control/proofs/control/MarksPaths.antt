-- Ways from a control to another, on which each act of a range of numbers is met.
use Rattle.std.proofs.Common.{◌≡◌, ℕ, ◌+◌, ◌<◌, ◌≤◌, Bool, true, false, Option, Some, None, List, [], ◌∷◌, inl, inr, refl, subst, arith}
use Rattle.std.proofs.lemmas.Bool.{cases_lt}
use Rattle.pt_tree.specs.Syntax as S
use Rattle.pt_tree.specs.Syntax.{Clauses, Tgt, Tgts, Items, Stms}
use Rattle.pt_tree.specs.Sizes.{target_size}
use Rattle.sem_control.specs.control.Turn.{Variable, Around, Operation, Seek, Deed, Test, Row, returned, Reply, got, mark}
use Rattle.sem_control.specs.control.Frames as F
use Rattle.sem_control.specs.control.Frames.{Nest, no_more, Way, Wait, Over, Rounds, Control}
use Rattle.sem_control.specs.control.Expressions.{begin_operation, take_item}
use Rattle.sem_control.specs.control.Statements.{begin_store, count, each_gets, begin_stores}
use Rattle.sem_control.specs.control.Control.{make_anew, deliver, go, take_iter, after_entry, turn}
use Rattle.sem_control.specs.control.Reached.{Leads, Reaches, here, then, IsAt, Meets}

module _ {V : Type 0} (block : Around V) where
  pub reaches_then : {c d e : Control V} → Reaches block c d → Reaches block d e → Reaches block c e
  reaches_then p here = p
  reaches_then p (then q leads) = then (reaches_then p q) leads

  -- each act from n to m is met
  pub record Met (c : Control V) (n m : ℕ) : Type 0 where
    pub at : (i : ℕ) → n ≤ i → i < m → Meets block c i

  pub met_along : {c d : Control V} {n m : ℕ} → Reaches block c d → Met d n m → Met c n m
  met_along p h = record { at = λ i low high. let u = h.at i low high in (u.0, reaches_then p u.1, u.2) }

  pub met_both : {c : Control V} {n m k : ℕ} → Met c n m → Met c m k → Met c n k
  met_both {m = m} f g = record { at = λ i low high. elim (cases_lt i m) [ inl h ↦ f.at i low h | inr h ↦ g.at i h high ] }

  pub met_none : {c : Control V} {n : ℕ} → Met c n n
  met_none = record { at = λ i low high. absurd (omega arith) }

  pub met_one : {c : Control V} {n : ℕ} → IsAt (turn block c) n → Met c n (n + 1)
  met_one {c = c} {n = n} is_at = record {
    at = λ i low high.
        let same : n ≡ i = omega arith in (c, here, subst (λ j. IsAt (turn block c) j) same is_at);
  }

  pub met_to : {c : Control V} {n m k : ℕ} → Met c n m → m ≡ k → Met c n k
  met_to {c = c} {n = n} h e = subst (λ j. Met c n j) e h

  -- so a control is reached
  pub record Runs (c : Control V) (n m : ℕ) (d : Control V) : Type 0 where
    pub met : Met c n m
    pub reaches : Reaches block c d

  pub runs_then : {c d e : Control V} {n m k : ℕ} → Runs c n m d → Runs d m k e → Runs c n k e
  runs_then p q = record { met = met_both p.met (met_along p.reaches q.met); reaches = reaches_then p.reaches q.reaches }

  pub stays : {c : Control V} {n : ℕ} → Runs c n (n + 0) c
  stays {c = c} {n = n} = let same : n ≡ n + 0 = omega arith in record { met = met_to met_none same; reaches = here }

  pub runs_to : {c d : Control V} {n m k : ℕ} → Runs c n m d → m ≡ k → Runs c n k d
  runs_to {c = c} {d = d} {n = n} p e = subst (λ j. Runs c n j d) e p

  pub met_then : {c d : Control V} {n m k : ℕ} → Runs c n m d → Met d m k → Met c n k
  met_then p h = met_both p.met (met_along p.reaches h)

  -- two ways from one control, each with its range
  pub fork : {c d e f : Control V} {n m k i j : ℕ} → Runs c n m d → Runs c i j e → Runs e m k f → Runs c n k f
  fork p q r = record { met = met_both p.met (met_along q.reaches r.met); reaches = reaches_then q.reaches r.reaches }

  pub met_fork : {c e : Control V} {n m k i j : ℕ} → Met c n m → Runs c i j e → Met e m k → Met c n k
  met_fork h q i = met_both h (met_along q.reaches i)

  pub along : {c d e : Control V} {n m : ℕ} → Reaches block c d → Runs d n m e → Runs c n m e
  along p q = record { met = met_along p q.met; reaches = reaches_then p q.reaches }

  -- the acts that are met, and where another way leads
  pub finally : {c d : Control V} {n m i j : ℕ} → Runs c i j d → Met c n m → Runs c n m d
  finally q h = record { met = h; reaches = q.reaches }

  runs_act : {c d : Control V} {n : ℕ} → IsAt (turn block c) n → Leads (turn block c) d → Runs c n (n + 1) d
  runs_act at leads = record { met = met_one at; reaches = then here leads }

  -- an act of each form, with a reply
  pub value_runs : {a : Seek V} {w : Wait V} {l n : ℕ} {g : Bool} → Runs (F.for_value (mark n l g) a w) n (n + 1) (deliver block block.null w)
  value_runs = runs_act refl (got block.null, refl)

  pub operation_runs : (xs : List Variable) (l n : ℕ) (g : Bool) (op : Operation) (vs : List V) (w : Wait V)
      → Runs (begin_operation block xs l n g op vs w) n (n + 1) (deliver block block.null w)
  operation_runs [] l n g op vs w = value_runs
  operation_runs (x ∷ xs) l n g op vs w = along (then here (got block.null, refl)) (operation_runs xs l n g op (block.null ∷ vs) w)

  pub deed_runs : {a : Deed V} {k : Way V} {s : Nest V} {l n : ℕ} {g : Bool} → Runs (F.for_deed (mark n l g) a k s) n (n + 1) (go block k)
  deed_runs = runs_act refl (got tt, refl)

  pub true_runs : {a : Test V} {t f : Way V} {s : Nest V} {l n : ℕ} {g : Bool} → Runs (F.for_truth (mark n l g) a t f s) n (n + 1) (go block t)
  true_runs = runs_act refl (got true, refl)

  pub false_runs : {a : Test V} {t f : Way V} {s : Nest V} {l n : ℕ} {g : Bool} → Runs (F.for_truth (mark n l g) a t f s) n (n + 1) (go block f)
  false_runs = runs_act refl (got false, refl)

  pub iter_runs : {v : V} {o : Over V} {l n : ℕ} {g : Bool} → Runs (F.for_iter (mark n l g) v o) n (n + 1) (take_iter block block.null o)
  iter_runs = runs_act refl (got block.null, refl)

  pub some_runs : {i : V} {m : ℕ} {t : Tgt} {k f : Way V} {l n : ℕ} {g : Bool}
      → Runs (F.for_item (mark n l g) i m t k f) n (n + 1) (begin_store block t block.null m (F.stores (m + target_size t) no_more k))
  some_runs = runs_act refl (got (Some block.null), refl)

  pub none_runs : {i : V} {m : ℕ} {t : Tgt} {k f : Way V} {l n : ℕ} {g : Bool} → Runs (F.for_item (mark n l g) i m t k f) n (n + 1) (go block f)
  none_runs = runs_act refl (got None, refl)

  pub entry_runs : {v : V} {j m : ℕ} {t : Option Tgt} {is : Items} {body : Stms} {s : Nest V} {l n : ℕ} {g : Bool}
      → Runs (F.for_entry (mark n l g) v j m t is body s) n (n + 1) (after_entry block j m t is body s (got (block.null, block.null)))
  entry_runs = runs_act refl (got (block.null, block.null), refl)

  pub nulls : (ts : Tgts) → Row V (count ts)
  nulls S.no_targets = tt
  nulls (S.more_targets t ts) = (block.null, nulls ts)

  pub unpack_runs : {v : V} {m : ℕ} {ts : Tgts} {k : Way V} {s : Nest V} {l n : ℕ} {g : Bool}
      → Runs (F.for_unpack (mark n l g) v m ts k s) n (n + 1) (begin_stores block (each_gets ts (nulls ts)) m k (go block k))
  unpack_runs {ts = ts} = runs_act refl (got (nulls ts), refl)

  pub delegate_runs : {i : V} {r : Reply V V} {w : Wait V} {l n : ℕ} {g : Bool} → Runs (F.for_delegate (mark n l g) i r w) n (n + 1) (deliver block block.null w)
  delegate_runs = runs_act refl (got (returned block.null), refl)

  pub anew_reaches : (xs : List Variable) (l n : ℕ) (i : V) (t : Tgt) (cs : Clauses) (r : Rounds V)
      → Reaches block (make_anew xs l n i t cs r) (take_item l n i t cs r)
  anew_reaches [] l n i t cs r = here
  anew_reaches (x ∷ xs) l n i t cs r = reaches_then (then here (got tt, refl)) (anew_reaches xs l n i t cs r)
