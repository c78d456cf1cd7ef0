-- The samples fit, or are refused, as is computed from their tables.
use Rattle.std.proofs.Common.{ℕ, ◌<◌, true, false, List, [], ◌∷◌, None, refl, arith}
use Rattle.pt_base.specs.declared.operators.BinOp.TheVariants.{Add}
use Rattle.pt_ranges.specs.declared.handlers.Handler.{Handler}
use Rattle.pt_instr.specs.declared.Instr.{Instr}
use Rattle.pt_instr.specs.declared.Instr.TheVariants as instr
use Rattle.pt_instr.specs.declared.kinds.Kind.TheVariants.{Value, Iter, Pending}
use Rattle.pt_instr.specs.Effects.{effect_of}
use Rattle.pt_instr.specs.Encoding.{code_of}
use Rattle.pt_code.specs.File.{number, signature, names, tables, block, file}
use Rattle.pt_code.specs.View.{Ins}
use Rattle.sem_fits.specs.fits.Block.{Block}
use Rattle.sem_fits.specs.fits.Places as P
use Rattle.sem_fits.specs.fits.Places.{Gets, Reached}
use Rattle.sem_fits.specs.fits.Leaves as L
use Rattle.sem_fits.specs.fits.Leaves.{Goes}
use Rattle.sem_fits.specs.fits.Agreement as A
use Rattle.sem_fits.specs.fits.Fits as F
use Rattle.sem_fits.specs.fits.Samples.{module_of, handler, returns_none, ends_value, jumps_to, held_leave, grows, drops_nothing, adds_iterator, drops_iterator}
use Rattle.sem_fits.specs.fits.Rows.{FirstIsFile, FirstIsSeen, FirstFits, ValueIsNoCompletion, LoopIsSilent, JumpGoesAstray, HeldLeaveLacks, HandlerIsNowhere, HandlerIsTooDeep, LengthsBeforeHandler, HandlerBeforeFew, FewBeforeKind, KindBeforeTarget}
use Rattle.sem_fits.proofs.fits.Certificates.{Entry, entry, Agreeing, agrees_up_to, no_disagreement, tables_hold, all_arrive, never_deep, fits_by, no_lengths_meet, no_handler_fails, never_too_few, no_kinds_clash}

none_below : (P : ℕ → Type 0) (m : ℕ) → m < 0 → P m → ⊥
none_below P m l p = let never : ⊥ = omega (arith, l) in never

-- an instruction where no act begins
abbrev placed : Instr → (next : ℕ) → List Handler → Ins
placed j n rows = record { instr = j; mark = None; next = n; rows = rows }

pub first_is_file : FirstIsFile
unfolding code_of number signature names tables block file
first_is_file = refl

pub first_is_seen : FirstIsSeen
unfolding code_of
first_is_seen = record { instrs = returns_none; fits = ((omega arith, tt), (tt, tt)); spelled = refl; view_is = refl }

abbrev value_behind : List Entry
value_behind = entry 0 [] ∷ entry 5 (Value ∷ []) ∷ []

first_agrees : Agreeing (module_of [] returns_none) (module_of [] returns_none).size value_behind
unfolding code_of effect_of
first_agrees = record { whole = refl; lengths = refl; within = refl; alike = refl; enough = refl; one = refl; find = refl; stand = refl; inside = refl; leaves = refl }

pub first_fits : FirstFits
unfolding code_of effect_of
first_fits = fits_by (module_of [] returns_none) value_behind first_agrees refl refl refl

module _ where
  abbrev b : Block
  b = module_of [] ends_value

  at_end : Reached b 5 5 (placed instr.EndFinally 6 []) (Value ∷ [])
  unfolding code_of effect_of
  at_end = record { gets = P.onward {kept = 0} (P.start _ refl) (omega arith) (0, (omega arith), refl) _ refl; low = omega arith; stands = refl }

  agrees_before : Agreeing b 4 value_behind
  unfolding code_of effect_of
  agrees_before = record { whole = refl; lengths = refl; within = refl; alike = refl; enough = refl; one = refl; find = refl; stand = refl; inside = refl; leaves = refl }

  pub value_is_no_completion : ValueIsNoCompletion
  unfolding code_of effect_of
  value_is_no_completion = F.disagrees (tables_hold b refl) 5
      (record { holds = F.kinds (A.lacks at_end refl); least = λ m l d. no_disagreement (agrees_up_to b 4 value_behind agrees_before m (omega (arith, l))) d })
      (F.kinds (no_lengths_meet b 5 value_behind refl 5 (omega arith) refl) (no_handler_fails b 5 value_behind refl 5 (omega arith) refl refl)
      (never_too_few b 5 value_behind refl 5 (omega arith) refl refl) (A.lacks at_end refl))

module _ where
  abbrev c : Block
  c = module_of [] (jumps_to 0)

  abbrev alone_there : List Entry
  alone_there = entry 0 [] ∷ []

  round_agrees : Agreeing c c.size alone_there
  unfolding code_of effect_of
  round_agrees = record { whole = refl; lengths = refl; within = refl; alike = refl; enough = refl; one = refl; find = refl; stand = refl; inside = refl; leaves = refl }

  round : Goes c c.size 0 0 0
  unfolding code_of effect_of
  round = L.by_row {ls = []} (record { gets = P.start _ refl; low = omega arith; stands = refl }) (0, (omega arith), refl) refl

  pub loop_is_silent : LoopIsSilent
  unfolding code_of effect_of
  loop_is_silent = F.loops (tables_hold c refl) (agrees_up_to c c.size alone_there round_agrees c.size (omega arith)) (all_arrive c alone_there round_agrees)
      (never_deep c alone_there round_agrees refl) 0 (record { holds = F.once (record { ins = _; stands = refl; silent = refl }) round; least = none_below _ })

module _ where
  abbrev d : Block
  d = module_of [] (jumps_to 9)

  astray : A.Strays d 0
  unfolding code_of effect_of
  astray = A.goes {kept = 0} {ls = []} (record { gets = P.start _ refl; low = omega arith; stands = refl }) (0, (omega arith), refl) refl

  pub jump_goes_astray : JumpGoesAstray
  unfolding code_of effect_of
  jump_goes_astray = F.disagrees (tables_hold d refl) 0 (record { holds = F.inside astray; least = none_below _ })
      (F.inside (no_lengths_meet d 0 (entry 0 [] ∷ []) refl 0 (omega arith) refl) (no_handler_fails d 0 (entry 0 [] ∷ []) refl 0 (omega arith) refl refl)
      (never_too_few d 0 (entry 0 [] ∷ []) refl 0 (omega arith) refl refl) (no_kinds_clash d 0 (entry 0 [] ∷ []) refl 0 (omega arith) refl refl refl refl) astray)

module _ where
  abbrev h : Block
  h = module_of (handler 15 20 21 0 true ∷ []) held_leave

  abbrev up_to_leave : List Entry
  up_to_leave = entry 0 [] ∷ entry 5 (Value ∷ []) ∷ entry 10 (Value ∷ Value ∷ []) ∷ entry 15 (Value ∷ []) ∷ entry 20 (Value ∷ []) ∷ entry 21 (Pending ∷ []) ∷ []

  leave_agrees : Agreeing h 14 up_to_leave
  unfolding code_of effect_of
  leave_agrees = record { whole = refl; lengths = refl; within = refl; alike = refl; enough = refl; one = refl; find = refl; stand = refl; inside = refl; leaves = refl }

  at_jump : Gets h 15 10 (Value ∷ Value ∷ [])
  unfolding code_of effect_of
  at_jump = P.onward {kept = 1} (P.onward {kept = 0} (P.start _ refl) (omega arith) (0, (omega arith), refl) _ refl) (omega arith) (0, (omega arith), refl) _ refl

  at_leave : Reached h 15 15 (placed (instr.Leave (record { 0 = 20 })) 20 (handler 15 20 21 0 true ∷ [])) (Value ∷ [])
  unfolding code_of effect_of
  at_leave = record { gets = P.onward {kept = 1} at_jump (omega arith) (0, (omega arith), refl) _ refl; low = omega arith; stands = refl }

  at_return : Gets h 15 20 (Value ∷ [])
  unfolding code_of effect_of
  at_return = P.onward {kept = 1} at_jump (omega arith) (1, (omega arith), refl) _ refl

  lacks_value : A.TooFew h 15
  unfolding code_of effect_of
  lacks_value = A.leaves (L.held (L.leaves at_leave refl) (handler 15 20 21 0 true) refl) at_return refl

  pub held_leave_lacks : HeldLeaveLacks
  unfolding code_of effect_of
  held_leave_lacks = F.disagrees (tables_hold h refl) 15
      (record { holds = F.enough lacks_value; least = λ m l d. no_disagreement (agrees_up_to h 14 up_to_leave leave_agrees m (omega (arith, l))) d })
      (F.enough (no_lengths_meet h 15 up_to_leave refl 15 (omega arith) refl) (no_handler_fails h 15 up_to_leave refl 15 (omega arith) refl refl) lacks_value)

pub handler_is_nowhere : HandlerIsNowhere
unfolding code_of
handler_is_nowhere = F.tables 0 (record { holds = refl; least = none_below _ })

module _ where
  abbrev r : Block
  r = module_of (handler 0 5 5 1 false ∷ []) returns_none

  fails : A.HandlerFails r 0 (handler 0 5 5 1 false)
  unfolding code_of effect_of
  fails = A.too_deep (record { gets = P.start _ refl; low = omega arith; stands = refl }) (0, (omega arith), refl) refl

  pub handler_is_too_deep : HandlerIsTooDeep
  unfolding code_of effect_of
  handler_is_too_deep = F.disagrees (tables_hold r refl) 0 (record { holds = F.handlers (handler 0 5 5 1 false) fails; least = none_below _ })
      (F.handlers (no_lengths_meet r 0 value_behind refl 0 (omega arith) refl) 0
      (record { holds = record { row = handler 0 5 5 1 false; number = record { among = 0; is = refl; counted = refl }; fails = fails }; least = none_below _ }))

module _ where
  abbrev g : Block
  g = module_of (handler 5 10 0 2 false ∷ []) grows

  grows_before : Agreeing g 4 value_behind
  unfolding code_of effect_of
  grows_before = record { whole = refl; lengths = refl; within = refl; alike = refl; enough = refl; one = refl; find = refl; stand = refl; inside = refl; leaves = refl }

  two_lengths : A.LengthsMeet g 5
  unfolding code_of effect_of
  two_lengths = A.two (P.start _ refl) (P.onward {kept = 1} {ls = Value ∷ []} (P.onward {kept = 0} {ks = []} {ls = Value ∷ []} (P.start _ refl) (omega arith) (0, (omega arith), refl) _ refl)
      (omega arith) (0, (omega arith), refl) _ refl) refl

  pub lengths_before_handler : LengthsBeforeHandler
  unfolding code_of effect_of
  lengths_before_handler = F.disagrees (tables_hold g refl) 5
      (record { holds = F.lengths two_lengths; least = λ m l x. no_disagreement (agrees_up_to g 4 value_behind grows_before m (omega (arith, l))) x }) (F.lengths two_lengths)

module _ where
  abbrev k : Block
  k = module_of (handler 0 1 7 1 false ∷ []) drops_nothing

  cuts_too_deep : A.HandlerFails k 0 (handler 0 1 7 1 false)
  unfolding code_of effect_of
  cuts_too_deep = A.too_deep (record { gets = P.start _ refl; low = omega arith; stands = refl }) (0, (omega arith), refl) refl

  pub handler_before_few : HandlerBeforeFew
  unfolding code_of effect_of
  handler_before_few = F.disagrees (tables_hold k refl) 0 (record { holds = F.handlers (handler 0 1 7 1 false) cuts_too_deep; least = none_below _ })
      (F.handlers (no_lengths_meet k 0 (entry 0 [] ∷ []) refl 0 (omega arith) refl) 0
      (record { holds = record { row = handler 0 1 7 1 false; number = record { among = 0; is = refl; counted = refl }; fails = cuts_too_deep }; least = none_below _ }))

abbrev iterator_behind : List Entry
iterator_behind = entry 0 [] ∷ entry 5 (Value ∷ []) ∷ entry 6 (Iter ∷ []) ∷ []

module _ where
  abbrev f : Block
  f = module_of [] adds_iterator

  adds_before : Agreeing f 5 iterator_behind
  unfolding code_of effect_of
  adds_before = record { whole = refl; lengths = refl; within = refl; alike = refl; enough = refl; one = refl; find = refl; stand = refl; inside = refl; leaves = refl }

  has_few : A.TooFew f 6
  unfolding code_of effect_of
  has_few = A.lacks {i = placed (instr.Binary Add) 11 []} {ks = Iter ∷ []} (record {
    gets = P.onward {kept = 0} {ls = Iter ∷ []} (P.onward {kept = 0} {ks = []} {ls = Value ∷ []} (P.start _ refl) (omega arith)
        (0, (omega arith), refl) _ refl) (omega arith) (0, (omega arith), refl) _ refl;
    low = omega arith;
    stands = refl;
  }) refl

  pub few_before_kind : FewBeforeKind
  unfolding code_of effect_of
  few_before_kind = F.disagrees (tables_hold f refl) 6
      (record { holds = F.enough has_few; least = λ m l x. no_disagreement (agrees_up_to f 5 iterator_behind adds_before m (omega (arith, l))) x })
      (F.enough (no_lengths_meet f 6 iterator_behind refl 6 (omega arith) refl) (no_handler_fails f 6 iterator_behind refl 6 (omega arith) refl refl) has_few)

module _ where
  abbrev t : Block
  t = module_of [] drops_iterator

  drops_before : Agreeing t 5 iterator_behind
  unfolding code_of effect_of
  drops_before = record { whole = refl; lengths = refl; within = refl; alike = refl; enough = refl; one = refl; find = refl; stand = refl; inside = refl; leaves = refl }

  other_kind : A.KindsClash t 6
  unfolding code_of effect_of
  other_kind = A.lacks {i = placed instr.Pop 7 []} {ks = Iter ∷ []} (record {
    gets = P.onward {kept = 0} {ls = Iter ∷ []} (P.onward {kept = 0} {ks = []} {ls = Value ∷ []} (P.start _ refl) (omega arith)
        (0, (omega arith), refl) _ refl) (omega arith) (0, (omega arith), refl) _ refl;
    low = omega arith;
    stands = refl;
  }) refl

  pub kind_before_target : KindBeforeTarget
  unfolding code_of effect_of
  kind_before_target = F.disagrees (tables_hold t refl) 6
      (record { holds = F.kinds other_kind; least = λ m l x. no_disagreement (agrees_up_to t 5 iterator_behind drops_before m (omega (arith, l))) x })
      (F.kinds (no_lengths_meet t 6 iterator_behind refl 6 (omega arith) refl) (no_handler_fails t 6 iterator_behind refl 6 (omega arith) refl refl)
      (never_too_few t 6 iterator_behind refl 6 (omega arith) refl refl) other_kind)

pub ruleset samples = (first_is_file, first_is_seen, first_fits, value_is_no_completion, loop_is_silent, jump_goes_astray, held_leave_lacks, handler_is_nowhere, handler_is_too_deep)

pub ruleset orders = (lengths_before_handler, handler_before_few, few_before_kind, kind_before_target)
