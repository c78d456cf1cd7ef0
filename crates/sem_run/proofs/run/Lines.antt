-- Which of what is told are lines: one before an act, and no other.
use Rattle.std.proofs.Common.{◌≡◌, ℕ, List, [], ◌∷◌, ◌++◌, map, Bool, true, false, ◌&&◌, Option, Some, None, refl, if◌then◌else◌}
use Rattle.sem_control.specs.control.Turn as T
use Rattle.sem_control.specs.control.Turn.{Ask, Reply, got, raised}
use Rattle.sem_control.specs.control.Events as E
use Rattle.sem_run.specs.run.Events as Told
use Rattle.sem_run.specs.run.Events.{Happening, is_line}
use Rattle.sem_run.specs.run.Host.{Callee}
use Rattle.sem_run.specs.run.Step.{happening, of_builtin, of_call, only_raises, stop_event}

-- this is so where one of them is a line
abbrev pub Lines : {V : Type 0} → (Line : Type 0) → List (Happening V) → Type 0
Lines Line [] = Unit {0}
Lines Line (h ∷ hs) = (is_line h ≡ true → Line) × Lines Line hs

pub of_and : (a b : Bool) → (a && b) ≡ true → b ≡ true
of_and true b e = e
of_and false b e = absurd cc

-- the one before an act
pub line_before : (V Line : Type 0) → Line → (b j : Bool) → Lines {V = V} Line (if b then Told.line j ∷ [] else [])
line_before V Line l true j = (λ e. l, tt)
line_before V Line l false j = tt

module _ {V : Type 0} (Line : Type 0) where
  pub no_line : (h : Happening V) → is_line h ≡ false → is_line h ≡ true → Line
  no_line h e f = absurd cc

  -- one that is no line
  pub alone : (h : Happening V) → is_line h ≡ false → Lines Line (h ∷ [])
  alone h e = (no_line h e, tt)

  pub lines_append : (hs ks : List (Happening V)) → Lines Line hs → Lines Line ks → Lines Line (hs ++ ks)
  lines_append [] ks h k = k
  lines_append (e ∷ hs) ks (h, i) k = (h, lines_append hs ks i k)

  pub of_control : (d : ℕ) (n : V) (c : Option (Callee V)) (es : List (E.Event V)) → Lines Line (map (happening d n c) es)
  of_control d n c [] = tt
  of_control d n c (E.jumps ∷ es) = (λ e. absurd cc, of_control d n c es)
  of_control d n c (E.branches ∷ es) = (λ e. absurd cc, of_control d n c es)
  of_control d n c (E.calls f rs vs ∷ es) = (λ e. absurd cc, of_control d n c es)
  of_control d n c (E.raises v ∷ es) = (λ e. absurd cc, of_control d n c es)
  of_control d n c (E.raises_again v ∷ es) = (λ e. absurd cc, of_control d n c es)
  of_control d n c (E.handled v ∷ es) = (λ e. absurd cc, of_control d n c es)

  pub of_stop : (o : Option V) → Lines Line (stop_event o)
  of_stop None = tt
  of_stop (Some e) = (λ f. absurd cc, tt)

  one_of : (b : Bool) (h : Happening V) → is_line h ≡ false → Lines Line (if b then h ∷ [] else [])
  one_of true h e = alone h e
  one_of false h e = tt

  builtins : {A : Type 0} (f : V) (c : Callee V) (r : Reply V A) → Lines Line (of_builtin f c r)
  builtins f c (got u) = one_of c.is_builtin (Told.returns_from f c.first) refl
  builtins f c (raised v) = one_of c.is_builtin (Told.raises_from f c.first) refl

  calls : {A : Type 0} (a : Ask V) (c : Option (Callee V)) (r : Reply V A) → Lines Line (of_call a c r)
  calls (T.seek (T.operate (T.call rs) (f ∷ vs))) (Some c) r = builtins f c r
  calls a c r = tt

  raises : (hs : List (Happening V)) → Lines Line (only_raises hs)
  raises [] = tt
  raises (Told.raises v ∷ hs) = (λ e. absurd cc, raises hs)
  raises (h ∷ hs) = raises hs

  by_kind : (i : Bool) (hs : List (Happening V)) → Lines Line hs → Lines Line (if i then hs else only_raises hs)
  by_kind true hs h = h
  by_kind false hs h = raises hs

  -- what is told behind an ask
  pub of_reply : {A : Type 0} (i : Bool) (a : Ask V) (c : Option (Callee V)) (r : Reply V A) (es : List (Happening V)) → Lines Line es → (d : ℕ) (n : V) (ks : List (E.Event V)) →
      Lines Line (if i then of_call a c r ++ es ++ map (happening d n None) ks else only_raises (of_call a c r ++ es ++ map (happening d n None) ks))
  of_reply i a c r es h d n ks = by_kind i _ (lines_append (of_call a c r ++ es) _ (lines_append (of_call a c r) es (calls a c r) h) (of_control d n None ks))
