-- What becomes of the open activations while the newest is lent.
use Rattle.std.specs.Prelude.{List, [], ◌∷◌}
use Rattle.std.specs.Borrow.{Lends, MutBor, Fml}
use Rattle.pt_frames.specs.declared.activations.OpenActivation.{OpenActivation}
use Rattle.pt_frames.specs.contracts.activations.Activations.{the_row}
use Rattle.pt_frames.specs.contracts.activations.OpenActivation as opened_type

-- another in place of the newest
abbrev pub with_newest : List OpenActivation → OpenActivation → List OpenActivation
with_newest [] o = []
with_newest (x ∷ os) o = o ∷ os

-- what is last written through r stands as the newest
abbrev pub LendsNewest : MutBor (List OpenActivation) → MutBor OpenActivation → Fml
LendsNewest a r = Lends the_row opened_type.the_row a r (with_newest a.now)
