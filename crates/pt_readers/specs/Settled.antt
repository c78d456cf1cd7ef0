-- What a reader answers.
use Rattle.std.specs.Prelude.{List, Result, Ok, Err, true, false}
use Rattle.pt_readers.specs.declared.halt.Halt.{Halt}
use Rattle.pt_readers.specs.declared.halt.Halt.TheVariants.{Unexpected, Limit, Memory}
use Rattle.pt_readers.specs.Reading.{Part, Found, Refused}

abbrev pub Fails : {T A : Type 0} → Part T A → List T → List T → Halt → Type 0
Fails P ts rest Unexpected = Refused P false ts rest
Fails P ts rest Limit = Refused P true ts rest
Fails P ts rest Memory = Unit {0}

-- The reader of P began at the first tokens and stands before the rest.
abbrev pub Settled : {T A X : Type 0} → Part T A → (X → A) → List T → List T → Result X Halt → Type 0
Settled P see ts rest (Ok x) = Found P ts (see x) rest
Settled P see ts rest (Err e) = Fails P ts rest e
