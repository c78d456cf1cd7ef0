-- What is told of an ask: of what is called, and of what is decided.
use Rattle.std.proofs.Common.{◌≡◌, ◌∙◌, [], ◌∷◌, Bool, true, false, Option, Some, None, refl, sym, ap}
use Rattle.std.specs.Option.{option_map}
use Rattle.pt_heap.specs.declared.value.Value.{Value}
use Rattle.sem_control.specs.control.Turn as T
use Rattle.sem_control.specs.control.Turn.{Ask, Answer, Reply, got, raised, Turn}
use Rattle.sem_code.specs.slots.Slots.{State as CodeState}
use Rattle.sem_control.specs.control.Events as E
use Rattle.law_takes.specs.Taking.{Gives}
use Rattle.sem_run.specs.run.Step.{of_call}
use Rattle.pt_pendings.specs.declared.reply.Callee.{Callee}
use Rattle.pt_pendings.specs.Views.{callee_view}
use Rattle.law_doing.specs.pt_answering.pt_opening.pt_purposes.declared.purpose.Called.{Called}
use Rattle.law_doing.specs.pt_answering.pt_opening.pt_purposes.Asks.{told_of_call, told_by_control}
use Rattle.law_doing.specs.pt_machine_state.pt_code_facts.sem_rows.declared.heap_rows.progress.Progress.{Progress}
use Rattle.law_doing.specs.pt_answering.pt_replying.declared.replying.Decided.{Decided}
use Rattle.law_doing.specs.pt_answering.pt_replying.declared.replying.Decided.TheVariants as decided
use Rattle.law_doing.specs.pt_answering.pt_replying.Replying.{decided_events, given_told, reply_told}
use Rattle.law_doing.specs.pt_answering.pt_replying.Laws.{IsTold}
use Rattle.law_doing.specs.pt_answering.declared.answering.Asked.{Asked}
use Rattle.law_doing.specs.pt_answering.Answering.{given_of}
use Rattle.law_doing.specs.pt_answering.Laws.{IfGiven}
use Rattle.pt_applying.specs.Known.{CalledSo}
use Rattle.pt_applying.specs.Acting.{IfCalls}

-- what is known of an ask by its turn: what is called, what control tells of an answer that leads
-- there, and of the value of a block that is called
abbrev pub TellsTurn : (callee : Option Callee) (decides : Bool) (there : CodeState Value)
    → Progress → Asked → Turn (CodeState Value) Value → Type 0
TellsTurn callee decides there p d (T.act mark a k) =
    CalledSo a callee d.called
    × (IfGiven p ((x : Answer Value a) → k (got x) ≡ there
    → E.answered a x ≡ decided_events d.decided)
    × IfCalls p ((x : Answer Value a) → E.answered a x ≡ told_by_control decides (got x)))
TellsTurn callee decides there p d t = Unit {0}

-- a call is told as it is known
pub calls-so : {A : Type 0} (a : Ask Value) (callee : Option Callee) (called : Option Called)
    → CalledSo a callee called → (r : Reply Value A)
    → of_call a (option_map callee_view callee) r ≡ told_of_call called r
calls-so (T.deed a) None called e r = sym (ap (λ o. told_of_call o r) e)
calls-so (T.deed a) (Some c) called e r = sym (ap (λ o. told_of_call o r) e)
calls-so (T.leave a) None called e r = sym (ap (λ o. told_of_call o r) e)
calls-so (T.leave a) (Some c) called e r = sym (ap (λ o. told_of_call o r) e)
calls-so (T.throw a) None called e r = sym (ap (λ o. told_of_call o r) e)
calls-so (T.throw a) (Some c) called e r = sym (ap (λ o. told_of_call o r) e)
calls-so (T.test a) None called e r = sym (ap (λ o. told_of_call o r) e)
calls-so (T.test a) (Some c) called e r = sym (ap (λ o. told_of_call o r) e)
calls-so (T.iter_of a) None called e r = sym (ap (λ o. told_of_call o r) e)
calls-so (T.iter_of a) (Some c) called e r = sym (ap (λ o. told_of_call o r) e)
calls-so (T.next_of a) None called e r = sym (ap (λ o. told_of_call o r) e)
calls-so (T.next_of a) (Some c) called e r = sym (ap (λ o. told_of_call o r) e)
calls-so (T.enter a) None called e r = sym (ap (λ o. told_of_call o r) e)
calls-so (T.enter a) (Some c) called e r = sym (ap (λ o. told_of_call o r) e)
calls-so (T.unpack a n t) None called e r = sym (ap (λ o. told_of_call o r) e)
calls-so (T.unpack a n t) (Some c) called e r = sym (ap (λ o. told_of_call o r) e)
calls-so (T.delegate i u) None called e r = sym (ap (λ o. told_of_call o r) e)
calls-so (T.delegate i u) (Some c) called e r = sym (ap (λ o. told_of_call o r) e)
calls-so (T.seek (T.const x)) None called e r = sym (ap (λ o. told_of_call o r) e)
calls-so (T.seek (T.const x)) (Some c) called e r = sym (ap (λ o. told_of_call o r) e)
calls-so (T.seek (T.load x)) None called e r = sym (ap (λ o. told_of_call o r) e)
calls-so (T.seek (T.load x)) (Some c) called e r = sym (ap (λ o. told_of_call o r) e)
calls-so (T.seek (T.yielding v)) None called e r = sym (ap (λ o. told_of_call o r) e)
calls-so (T.seek (T.yielding v)) (Some c) called e r = sym (ap (λ o. told_of_call o r) e)
calls-so (T.seek (T.cell_of x)) None called e r = sym (ap (λ o. told_of_call o r) e)
calls-so (T.seek (T.cell_of x)) (Some c) called e r = sym (ap (λ o. told_of_call o r) e)
calls-so (T.seek (T.operate T.tuple vs)) None called e r = sym (ap (λ o. told_of_call o r) e)
calls-so (T.seek (T.operate T.tuple vs)) (Some c) called e r = sym (ap (λ o. told_of_call o r) e)
calls-so (T.seek (T.operate T.list vs)) None called e r = sym (ap (λ o. told_of_call o r) e)
calls-so (T.seek (T.operate T.list vs)) (Some c) called e r = sym (ap (λ o. told_of_call o r) e)
calls-so (T.seek (T.operate T.set vs)) None called e r = sym (ap (λ o. told_of_call o r) e)
calls-so (T.seek (T.operate T.set vs)) (Some c) called e r = sym (ap (λ o. told_of_call o r) e)
calls-so (T.seek (T.operate T.dict vs)) None called e r = sym (ap (λ o. told_of_call o r) e)
calls-so (T.seek (T.operate T.dict vs)) (Some c) called e r = sym (ap (λ o. told_of_call o r) e)
calls-so (T.seek (T.operate (T.get x) vs)) None called e r = sym (ap (λ o. told_of_call o r) e)
calls-so (T.seek (T.operate (T.get x) vs)) (Some c) called e r = sym (ap (λ o. told_of_call o r) e)
calls-so (T.seek (T.operate T.item vs)) None called e r = sym (ap (λ o. told_of_call o r) e)
calls-so (T.seek (T.operate T.item vs)) (Some c) called e r = sym (ap (λ o. told_of_call o r) e)
calls-so (T.seek (T.operate T.slice vs)) None called e r = sym (ap (λ o. told_of_call o r) e)
calls-so (T.seek (T.operate T.slice vs)) (Some c) called e r = sym (ap (λ o. told_of_call o r) e)
calls-so (T.seek (T.operate (T.unary x) vs)) None called e r = sym (ap (λ o. told_of_call o r) e)
calls-so (T.seek (T.operate (T.unary x) vs)) (Some c) called e r = sym (ap (λ o. told_of_call o r) e)
calls-so (T.seek (T.operate T.inverted vs)) None called e r = sym (ap (λ o. told_of_call o r) e)
calls-so (T.seek (T.operate T.inverted vs)) (Some c) called e r = sym (ap (λ o. told_of_call o r) e)
calls-so (T.seek (T.operate (T.binary x) vs)) None called e r = sym (ap (λ o. told_of_call o r) e)
calls-so (T.seek (T.operate (T.binary x) vs)) (Some c) called e r = sym (ap (λ o. told_of_call o r) e)
calls-so (T.seek (T.operate (T.in_place x) vs)) None called e r = sym (ap (λ o. told_of_call o r) e)
calls-so (T.seek (T.operate (T.in_place x) vs)) (Some c) called e r = sym (ap (λ o. told_of_call o r) e)
calls-so (T.seek (T.operate (T.compare x) vs)) None called e r = sym (ap (λ o. told_of_call o r) e)
calls-so (T.seek (T.operate (T.compare x) vs)) (Some c) called e r = sym (ap (λ o. told_of_call o r) e)
calls-so (T.seek (T.operate (T.format x) vs)) None called e r = sym (ap (λ o. told_of_call o r) e)
calls-so (T.seek (T.operate (T.format x) vs)) (Some c) called e r = sym (ap (λ o. told_of_call o r) e)
calls-so (T.seek (T.operate T.join vs)) None called e r = sym (ap (λ o. told_of_call o r) e)
calls-so (T.seek (T.operate T.join vs)) (Some c) called e r = sym (ap (λ o. told_of_call o r) e)
calls-so (T.seek (T.operate T.spread_out vs)) None called e r = sym (ap (λ o. told_of_call o r) e)
calls-so (T.seek (T.operate T.spread_out vs)) (Some c) called e r = sym (ap (λ o. told_of_call o r) e)
calls-so (T.seek (T.operate T.spread_named_out vs)) None called e r = sym (ap (λ o. told_of_call o r) e)
calls-so (T.seek (T.operate T.spread_named_out vs)) (Some c) called e r = sym (ap (λ o. told_of_call o r) e)
calls-so (T.seek (T.operate (T.function b x) vs)) None called e r = sym (ap (λ o. told_of_call o r) e)
calls-so (T.seek (T.operate (T.function b x) vs)) (Some c) called e r = sym (ap (λ o. told_of_call o r) e)
calls-so (T.seek (T.operate (T.class b) vs)) None called e r = sym (ap (λ o. told_of_call o r) e)
calls-so (T.seek (T.operate (T.class b) vs)) (Some c) called e r = sym (ap (λ o. told_of_call o r) e)
calls-so (T.seek (T.operate (T.generator b) vs)) None called e r = sym (ap (λ o. told_of_call o r) e)
calls-so (T.seek (T.operate (T.generator b) vs)) (Some c) called e r = sym (ap (λ o. told_of_call o r) e)
calls-so (T.seek (T.operate (T.import x) vs)) None called e r = sym (ap (λ o. told_of_call o r) e)
calls-so (T.seek (T.operate (T.import x) vs)) (Some c) called e r = sym (ap (λ o. told_of_call o r) e)
calls-so (T.seek (T.operate (T.import_name x) vs)) None called e r = sym (ap (λ o. told_of_call o r) e)
calls-so (T.seek (T.operate (T.import_name x) vs)) (Some c) called e r = sym (ap (λ o. told_of_call o r) e)
calls-so (T.seek (T.operate (T.call rs) [])) None called e r = sym (ap (λ o. told_of_call o r) e)
calls-so (T.seek (T.operate (T.call rs) [])) (Some c) called e r = sym (ap (λ o. told_of_call o r) e)
calls-so (T.seek (T.operate (T.call rs) (f ∷ vs))) None called e r = sym (ap (λ o. told_of_call o r) e)
calls-so (T.seek (T.operate (T.call rs) (f ∷ vs))) (Some c) called e r = sym (ap (λ o. told_of_call o r) e)

-- an exception is told so, whatever would be decided
pub raises-told : (A : Type 0) (decides : Bool) (v : Value)
    → told_by_control {A = A} decides (raised v) ≡ E.raises v ∷ []
raises-told A true v = refl
raises-told A false v = refl

-- where nothing is called and nothing decided, nothing is told
none-told : (d : Asked) (o : Decided) → d.called ≡ None → d.decided ≡ o → [] ≡ decided_events o
    → given_told (given_of d) ≡ []
none-told d decided.Nothing c e n =
    ap (λ x. given_told (record { called = x; stops = None; decided = d.decided })) c
    ∙ ap (λ x. given_told (record { called = None; stops = None; decided = x })) e
none-told d (decided.Branches k) c e n = absurd cc
none-told d (decided.Handles v) c e n = absurd cc

pub untold : (d : Asked) (acts : Bool) → given_told (given_of d) ≡ []
    → reply_told (given_of d) acts ≡ []
untold d true e = e
untold d false e = refl

-- so what tells something gives something
pub gives-so : (a : Ask Value) (callee : Option Callee) (d : Asked) → CalledSo a callee d.called
    → (x : Answer Value a) → E.answered a x ≡ decided_events d.decided
    → IsTold (reply_told (given_of d) d.is_act) → Gives a
gives-so (T.deed a) callee d c x e told = told (untold d d.is_act (none-told d d.decided c refl e))
gives-so (T.leave a) callee d c x e told = told (untold d d.is_act (none-told d d.decided c refl e))
gives-so (T.throw a) callee d c x e told = told (untold d d.is_act (none-told d d.decided c refl e))
gives-so (T.delegate i r) callee d c x e told = told (untold d d.is_act (none-told d d.decided c refl e))
gives-so (T.seek a) callee d c x e told = tt
gives-so (T.test a) callee d c x e told = tt
gives-so (T.iter_of a) callee d c x e told = tt
gives-so (T.next_of a) callee d c x e told = tt
gives-so (T.enter a) callee d c x e told = tt
gives-so (T.unpack a n t) callee d c x e told = tt
