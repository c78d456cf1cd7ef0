use Rattle.std.proofs.Common.{◌≡◌, take}
use Rattle.std.specs.List.{flat_map}
use Rattle.std.specs.Map.{keys_of}
use Rattle.pt_code_loader.specs.Texts.{kept_texts, text_of}
use Rattle.pt_code_loader.proofs.TextLemmas.{ValuesSoFar}
use Rattle.pt_code_loader.proofs.constants.values_of.Given as goal

abbrev pub invariant-loop-constant : goal.invariant-loop-constant
invariant-loop-constant l = record {
  texts : l.known.texts ≡ kept_texts l.initial.known.texts (flat_map (text_of l.texts) (take l.constant-index l.constants));
  places : l.known.texts ≡ keys_of l.known.places;
  values : ValuesSoFar l.texts (take l.constant-index l.constants) l.known.texts l.values;
}
