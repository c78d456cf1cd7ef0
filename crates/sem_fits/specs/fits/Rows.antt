-- What is answered to the samples.
use Rattle.std.specs.Prelude.{◌≡◌, ℕ, List, [], ◌∷◌, true, false}
use Rattle.pt_code.specs.declared.BlockKind.TheVariants.{Module}
use Rattle.pt_code.specs.File.{file}
use Rattle.pt_code.specs.View.{IsView, laid_from}
use Rattle.sem_fits.specs.fits.Fits.{Fits, Refused, stack, kind, target, table, silent_loop}
use Rattle.sem_fits.specs.fits.Samples.{plain, alone, module_of, handler, returns_none, ends_value, jumps_to, held_leave, grows, drops_nothing, adds_iterator, drops_iterator}

-- the file of the first sample
abbrev pub bytes_of_first : List ℕ
bytes_of_first =
    0x50 ∷ 0x54 ∷ 0x43 ∷ 0x46 ∷ 1 ∷ 1 ∷ 0 ∷ 0 ∷ 0 ∷ 1 ∷ 0 ∷ 0 ∷ 0 ∷ 0x6d ∷ 1 ∷ 0 ∷ 0 ∷ 0 ∷ 0 ∷ 0 ∷ 0 ∷ 0 ∷ 0 ∷ 1 ∷ 0 ∷ 0 ∷ 0 ∷ 0 ∷ 0 ∷ 0 ∷ 0 ∷ 0 ∷
    1 ∷ 0 ∷ 0 ∷ 0 ∷ 0 ∷ 0 ∷ 0 ∷ 0 ∷ 0 ∷ 0 ∷ 0 ∷ 0 ∷ 0 ∷ 0 ∷ 0 ∷ 0 ∷ 0 ∷ 0 ∷ 0 ∷ 0 ∷ 0 ∷ 0 ∷ 0 ∷ 0 ∷ 0 ∷ 6 ∷ 0 ∷ 0 ∷ 0 ∷ 1 ∷ 0 ∷ 0 ∷ 0 ∷ 0 ∷ 0x3a ∷
    0 ∷ 0 ∷ 0 ∷ 0 ∷ 0 ∷ 0 ∷ 0 ∷ 0 ∷ 0 ∷ 0 ∷ 0 ∷ 0 ∷
    []

abbrev pub FirstIsFile : Type 0
FirstIsFile = file (alone (plain Module [] returns_none)) ≡ bytes_of_first

abbrev pub FirstIsSeen : Type 0
FirstIsSeen = IsView (plain Module [] returns_none) (laid_from (plain Module [] returns_none) 0 returns_none)

abbrev pub FirstFits : Type 0
FirstFits = Fits (module_of [] returns_none)

-- EndFinally finds a value
abbrev pub ValueIsNoCompletion : Type 0
ValueIsNoCompletion = Refused (module_of [] ends_value) (kind 5)

abbrev pub LoopIsSilent : Type 0
LoopIsSilent = Refused (module_of [] (jumps_to 0)) (silent_loop 0)

abbrev pub JumpGoesAstray : Type 0
JumpGoesAstray = Refused (module_of [] (jumps_to 9)) (target 0)

-- the Leave would come to its target without the value there
abbrev pub HeldLeaveLacks : Type 0
HeldLeaveLacks = Refused (module_of (handler 15 20 21 0 true ∷ []) held_leave) (stack 15)

-- a handler starts where no instruction does
abbrev pub HandlerIsNowhere : Type 0
HandlerIsNowhere = Refused (module_of (handler 0 5 1 0 false ∷ []) returns_none) (table 0)

-- a handler is to leave a slot where none lies
abbrev pub HandlerIsTooDeep : Type 0
HandlerIsTooDeep = Refused (module_of (handler 0 5 5 1 false ∷ []) returns_none) (table 0)

-- Of two refusals at one place: two lengths before a handler, a handler before too few slots, too few slots before another kind, another kind before
-- a target.

abbrev pub LengthsBeforeHandler : Type 0
LengthsBeforeHandler = Refused (module_of (handler 5 10 0 2 false ∷ []) grows) (stack 5)

abbrev pub HandlerBeforeFew : Type 0
HandlerBeforeFew = Refused (module_of (handler 0 1 7 1 false ∷ []) drops_nothing) (table 0)

abbrev pub FewBeforeKind : Type 0
FewBeforeKind = Refused (module_of [] adds_iterator) (stack 6)

abbrev pub KindBeforeTarget : Type 0
KindBeforeTarget = Refused (module_of [] drops_iterator) (kind 6)
