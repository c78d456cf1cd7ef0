-- What shows of a run is one, and begins with what the run writes first.
use Rattle.std.proofs.Common.{◌≡◌, ℕ, List, [], ◌∷◌, ◌++◌, true, refl, sym, ap, ◌∙◌, subst, append_assoc}
use Rattle.sem_run.specs.run.Machine.{BlockId, Machine}
use Rattle.sem_run.specs.run.Host.{Host, FrameView}
use Rattle.sem_run.specs.run.Outcome as O
use Rattle.sem_run.specs.run.Outcome.{Output}
use Rattle.sem_run.specs.run.Run as R
use Rattle.sem_run.specs.run.Run.{Write, write, to_out, to_log, writes, nobody, Session, moves, move, Goes, stays, goes_further}
use Rattle.sem_run.specs.run.Laws.{Begins, further, session}
use Rattle.sem_run.specs.run.Shown.{Ending, done, exited, raised, spent, outside_at, Outcome, ending_with, IsAlike, ShowsOnce, WritesFirst, WritesItFirst}
use Rattle.sem_run.proofs.run.RunLemmas.{runs_once, outcomes_begin_so}

pub writes_append : {V : Type 0} (os ps : List (Output V)) → writes true (os ++ ps) ≡ writes true os ++ writes true ps
writes_append [] ps = refl
writes_append (O.prints x ∷ os) ps = ap (λ xs. write to_out x ∷ xs) (writes_append os ps)
writes_append (O.logs x ∷ os) ps = ap (λ xs. write to_log x ∷ xs) (writes_append os ps)
writes_append (O.replies x ∷ os) ps = ap (λ xs. write to_log x ∷ xs) (writes_append os ps)
writes_append (O.begins b m ∷ os) ps = writes_append os ps
writes_append (O.gives e ∷ os) ps = writes_append os ps
writes_append (O.refuses l r ∷ os) ps = writes_append os ps

module _ {N V W : Type 0} where
  abbrev view : List (FrameView N V) → W → O.View N V W
  view fs w = record { frames = fs; world = w }

  one_ending : (fs gs : List (FrameView N V)) (e f : Ending V W) → ending_with fs e ≡ ending_with gs f → e ≡ f
  one_ending fs gs done done q = refl
  one_ending fs gs (exited n x) (exited m y) q =
      let a : n ≡ m = cc in
      let b : x ≡ y = cc in λ i. exited (a i) (b i)
  one_ending fs gs (raised v w) (raised u z) q =
      let a : v ≡ u = cc in
      let b : view fs w ≡ view gs z = cc in λ i. raised (a i) ((b i).world)
  one_ending fs gs spent spent q = refl
  one_ending fs gs (outside_at what l) (outside_at why k) q =
      let a : what ≡ why = cc in
      let b : l ≡ k = cc in λ i. outside_at (a i) (b i)
  one_ending fs gs done (exited m y) q = absurd cc
  one_ending fs gs done (raised u z) q = absurd cc
  one_ending fs gs done spent q = absurd cc
  one_ending fs gs done (outside_at why k) q = absurd cc
  one_ending fs gs (exited n x) done q = absurd cc
  one_ending fs gs (exited n x) (raised u z) q = absurd cc
  one_ending fs gs (exited n x) spent q = absurd cc
  one_ending fs gs (exited n x) (outside_at why k) q = absurd cc
  one_ending fs gs (raised v w) done q = absurd cc
  one_ending fs gs (raised v w) (exited m y) q = absurd cc
  one_ending fs gs (raised v w) spent q = absurd cc
  one_ending fs gs (raised v w) (outside_at why k) q = absurd cc
  one_ending fs gs spent done q = absurd cc
  one_ending fs gs spent (exited m y) q = absurd cc
  one_ending fs gs spent (raised u z) q = absurd cc
  one_ending fs gs spent (outside_at why k) q = absurd cc
  one_ending fs gs (outside_at what l) done q = absurd cc
  one_ending fs gs (outside_at what l) (exited m y) q = absurd cc
  one_ending fs gs (outside_at what l) (raised u z) q = absurd cc
  one_ending fs gs (outside_at what l) spent q = absurd cc

  one_outcome : {D : Type 0} (p : R.Outcome D N V W) (o q : Outcome V W) → IsAlike p o → IsAlike p q → o ≡ q
  one_outcome p o q a b =
      let e : o.ending ≡ q.ending = one_ending a.frames b.frames o.ending q.ending (sym a.ending ∙ b.ending) in
      λ i. record { written = (sym a.written ∙ b.written) i; units = (sym a.units ∙ b.units) i; ending = e i }

module _ {S N V W : Type 0} (machine : Machine S V) (host : Host N V W) (n : ℕ) (b : BlockId) (x : N) (w : W) where
  pub shows_once : ShowsOnce machine host n b x w
  shows_once o q (p, r, a) (p1, r1, a1) =
      one_outcome p o q a (subst (λ z. IsAlike z q) (runs_once machine host nobody n (session machine b x w tt) p1 p r1 r) a1)

  pub writes_it_first : WritesItFirst machine host n b x w
  writes_it_first o ws (p, r, a) f =
      let (rest, e) = outcomes_begin_so machine host nobody n (session machine b x w tt) p f.outputs r f.begins in (
        f.rest ++ writes true rest,
        sym a.written ∙ ap (writes true) e ∙ writes_append f.outputs rest ∙ ap (λ vs. vs ++ writes true rest) f.front ∙ append_assoc ws f.rest (writes true rest),
      )

module _ {D S N V W : Type 0} (machine : Machine S V) (host : Host N V W) (ask : R.Debugger D N V W) (n : ℕ) where
  -- where a run has gone, what comes from there comes behind that
  pub begins_behind : (x y : Session D S N V W) (os ps : List (Output V)) → Goes machine host ask n x os y → Begins machine host ask n (move machine host ask n y) ps →
      Begins machine host ask n (move machine host ask n x) (os ++ ps)
  begins_behind x _ _ ps (stays _) g = g
  begins_behind x _ _ ps (goes_further _ y z os vs e h) g =
      subst (λ k. Begins machine host ask n (move machine host ask n x) k) (sym (append_assoc os vs ps))
      (subst (λ k. Begins machine host ask n k (os ++ (vs ++ ps))) (sym e) (further os (vs ++ ps) y (begins_behind y z vs ps h g)))
