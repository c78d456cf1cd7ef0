use Rattle.pt_prims.specs.Operations.{content_of}
use Rattle.pt_prims.proofs.StayLemmas.{objects-stay}
use Rattle.pt_prims.proofs.laws.objects_stay.Goals as goal

pub returns : goal.returns
returns c op args h = objects-stay (content_of op args h) h
