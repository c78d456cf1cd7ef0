-- What a display of a dictionary is, a key and a value at a time.
use Rattle.std.proofs.Common.{◌≡◌, ◌∙◌, List, [], ◌∷◌, Result, Ok, Err, refl, ap, sym}
use Rattle.pt_heap.specs.declared.value.Value.{Value}
use Rattle.pt_heap.specs.declared.object.Object.{Object}
use Rattle.pt_heap.specs.Entries.{Entry}
use Rattle.pt_content.specs.declared.content.Content.{Content}
use Rattle.pt_content.specs.declared.content.Content.TheVariants as content
use Rattle.pt_content.specs.declared.content.NewObject.TheVariants as new
use Rattle.pt_mappings.specs.Entering.{displayed, entered, HasNoPair}

pub kept : (h : List Object) (es : List Entry) (vs : List Value) (v w : Value) (rest : List Value) (r : Result (List Entry) Content) (c : Content)
    → displayed h (Ok es) vs ≡ c → vs ≡ v ∷ w ∷ rest → r ≡ entered h v w es → displayed h r rest ≡ c
kept h es vs v w rest r c i e f = ap (λ x. displayed h x rest) f ∙ sym (ap (displayed h (Ok es)) e) ∙ i

pub stopped : (h : List Object) (es : List Entry) (vs : List Value) (v w : Value) (rest : List Value) (d c : Content)
    → displayed h (Ok es) vs ≡ c → vs ≡ v ∷ w ∷ rest → Err d ≡ entered h v w es → d ≡ c
stopped h es vs v w rest d c i e f = kept h es vs v w rest (Err d) c i e f

pub ended : (h : List Object) (es : List Entry) (vs : List Value) (c : Content) → displayed h (Ok es) vs ≡ c → HasNoPair vs → content.New (new.Dict es) ≡ c
ended h es [] c i n = i
ended h es (v ∷ []) c i n = i
ended h es (v ∷ w ∷ vs) c i n = absurd n
