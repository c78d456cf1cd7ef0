-- Successors that are alike up to their states: over the same answers they print, request and store the same, and lead to related states.
use Rattle.std.specs.Prelude.{ℕ, List}
use Rattle.pt_base.specs.declared.what.What.{What}
use Rattle.sem_control.specs.control.Turn.{Reply, Note, End}
use Rattle.sem_run.specs.run.Host.{Store, Request, Response}
use Rattle.sem_run.specs.transitions.Successors.{Successor, to, arises, behind_yield, behind_print, behind_request, behind_note, outside, end, none}

pub data Alike {S R N V W : Type 0} (Q : S → R → Type 0) : Successor S N V W → Successor R N V W → Type 0 where
  alike_to : (c : S) (t : R) (st : Store N W) → Q c t → Alike Q (to c st) (to t st)
  alike_arises : (v : V) (c : S) (t : R) (st : Store N W) → Q c t → Alike Q (arises v c st) (arises v t st)
  alike_yield : (v : V) (k : Reply V V → S) (k' : Reply V V → R) (st : Store N W) → ((r : Reply V V) → Q (k r) (k' r))
      → Alike Q (behind_yield v k st) (behind_yield v k' st)
  alike_print : (text : List ℕ) (x : Successor S N V W) (y : Successor R N V W) → Alike Q x y → Alike Q (behind_print text x) (behind_print text y)
  alike_request : (r : Request N V) (st : Store N W) (f : Response N V r → Store N W → Successor S N V W) (g : Response N V r → Store N W → Successor R N V W)
      → ((a : Response N V r) (st1 : Store N W) → Alike Q (f a st1) (g a st1)) → Alike Q (behind_request r st f) (behind_request r st g)
  alike_note : (a : Note V) (k : Reply V (Unit {0}) → S) (k' : Reply V (Unit {0}) → R) → ((r : Reply V (Unit {0})) → Q (k r) (k' r))
      → Alike Q (behind_note a k) (behind_note a k')
  both_outside : (what : What) → Alike Q (outside what) (outside what)
  both_end : (e : End V) → Alike Q (end e) (end e)
  neither : Alike Q none none
