-- Where a run stands (Library Reference, "pdb": where).
use Rattle.std.specs.Prelude.{ℕ, zero, suc, slice_index_or, ◌==◌, Bool, true, List, [], ◌∷◌, ◌++◌, codes, if◌then◌else◌}
use Rattle.std.specs.List.{concat}
use Rattle.std.specs.Fmt.{decimal}
use Rattle.pt_pdb.specs.declared.position.Stop.{Stop}
use Rattle.pt_pdb.specs.declared.position.Stop.TheVariants as stop
use Rattle.pt_heap.specs.declared.view.ViewFrame.{ViewFrame}

-- lines are numbered from 1; where there is no such line its text is empty
abbrev pub numbered : List (List ℕ) → (number : ℕ) → List ℕ
numbered ls zero = []
numbered ls (suc n) = slice_index_or ls n []

-- the chosen frame is marked
abbrev pub marker : (is_chosen : Bool) → List ℕ
marker chosen = if chosen then codes "> " else codes "  "

abbrev pub frame_line : (is_chosen : Bool) → (file : List ℕ) → ViewFrame → List ℕ
frame_line chosen file f =
    concat (marker chosen ∷ file ∷ codes "(" ∷ decimal f.line.0 ∷ codes ")" ∷ f.name ∷ codes "()\n" ∷ [])

abbrev pub source_text : (line : List ℕ) → List ℕ
source_text line = concat (codes "-> " ∷ line ∷ codes "\n" ∷ [])

-- what a stop begins with, nothing at a line
abbrev pub heading : Stop → List ℕ
heading stop.Line = []
heading stop.Call = codes "--Call--\n"
heading stop.Return = codes "--Return--\n"
heading (stop.Exception error) = concat (error.now ∷ codes "\n" ∷ [])
heading stop.PostMortem = codes "--Post-mortem--\n"

-- over the name of the file and the lines of the source, without their outer blanks
module _ (file : List ℕ) (lines : List (List ℕ)) where
  abbrev pub place_text : (is_chosen : Bool) → ViewFrame → List ℕ
  place_text chosen f = frame_line chosen file f ++ source_text (numbered lines f.line.0)

  abbrev pub position_text : ViewFrame → List ℕ
  position_text f = place_text true f

  -- frames from a place on, of which one is chosen by its place
  abbrev pub frames_text : (chosen at : ℕ) → List ViewFrame → List ℕ
  frames_text chosen at [] = []
  frames_text chosen at (f ∷ fs) = place_text (at == chosen) f ++ frames_text chosen (suc at) fs

  abbrev pub stop_text : Stop → ViewFrame → List ℕ
  stop_text s f = concat (heading s ∷ position_text f ∷ [])
