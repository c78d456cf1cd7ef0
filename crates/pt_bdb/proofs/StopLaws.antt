-- Where commands stop the run, and where they don't.
use Rattle.std.proofs.Common.{◌≡◌, ◌&&◌, ◌||◌, ◌<◌, ◌≤◌, ℕ, Bool, true, false, not, nat_le, Option, Some, None, refl, sym, ap, ◌∙◌, subst, arith, eq-eqb}
use Rattle.std.proofs.lemmas.Bool.Decides.{nat_tests}
use Rattle.pt_base.specs.declared.numbers.Line.{Line}
use Rattle.pt_base.specs.declared.numbers.FrameNo.{FrameNo}
use Rattle.pt_bdb.specs.declared.event.Event.{Event}
use Rattle.pt_bdb.specs.declared.event.EventKind.{EventKind}
use Rattle.pt_bdb.specs.declared.event.EventKind.TheVariants as kind
use Rattle.pt_bdb.specs.declared.stops.StopData.{StopData}
use Rattle.pt_bdb.specs.Stops.{continue_data, counts, is_at, is_module, is_one, next_data, return_data, returned, rule, step_data, stops_at, stops_at_kind, until_data}
use Rattle.pt_bdb.specs.Laws.{NowhereStops, UntilGoesOn, NextReturns}

and_false : (b : Bool) → (b && false) ≡ false
and_false true = refl
and_false false = refl

-- where the rule never holds and quiet frame is waited for
unruled : (d : StopData) (e : Event) → d.return_frame ≡ None → rule d e.frame e.line ≡ false → (k : EventKind) → stops_at_kind k d e ≡ false
unruled d e none quiet kind.Call = rw (quiet, and_false (not (is_module e)), and_false (counts d e)) refl
unruled d e none quiet kind.Line = quiet
unruled d e none quiet kind.Return = rw (quiet, none, and_false (counts d e)) refl
unruled d e none quiet kind.Exception = quiet

pub nowhere_stops : NowhereStops
nowhere_stops f caller e = (unruled continue_data e refl refl e.kind, unruled (return_data f caller true) e refl (and_false (is_one e.frame (return_data f caller true).frame)) e.kind)

pub until_goes_on : UntilGoesOn
until_goes_on f line e is before =
    let short : nat_le line.0 e.line.0 ≡ false = grind (arith, nat_tests) in
    ap (λ k. stops_at_kind k (until_data f line) e) is ∙ ap (λ b. is_one e.frame (until_data f line).frame && b) short ∙ and_false (is_one e.frame (until_data f line).frame)

same_frame : (f g : FrameNo) → f ≡ g → is_one f (next_data g).frame ≡ true
same_frame f g e = eq-eqb g.0 f.0 (ap (λ h. h.0) (sym e))

from_start : (n : ℕ) → nat_le 0 n ≡ true
from_start n = grind (arith, nat_tests)

both_hold : (a b c : Bool) → a ≡ true → b ≡ true → (a && (b || c)) ≡ true
both_hold true true c e f = refl
both_hold true false c e f = cc
both_hold false b c e f = cc

pub next_returns : NextReturns
next_returns f e is here plain =
    let counted : counts (next_data f) e ≡ true = rw plain refl in
    let ruled : rule (next_data f) e.frame e.line ≡ true =
    ap (λ b. b && nat_le 0 e.line.0) (same_frame e.frame f here) ∙ from_start e.line.0 in (
      ap (λ k. stops_at_kind k (next_data f) e) is
          ∙ both_hold (counts (next_data f) e) (rule (next_data f) e.frame e.line) (is_at e.frame (next_data f).return_frame) counted ruled,
      rw (same_frame f f refl) refl,
    )
