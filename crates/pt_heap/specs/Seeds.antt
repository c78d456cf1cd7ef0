-- Where the hashes of keys start from (SipHash-1-3).
use Rattle.std.specs.Prelude.{ℕ, List}
use Rattle.std.specs.declared.hash.DefaultHasher.{DefaultHasher}
use Rattle.std.specs.Hash.DefaultHasher as sip
use Rattle.std.specs.Hash.{le_bytes}

-- the state in which the hash of a text was written
abbrev pub state_after : (text : List ℕ) → DefaultHasher
state_after text = sip.write sip.initial (le_bytes 8 (sip.finish (sip.write sip.initial text)))
