-- What has been met of a script when one more part has been.
use Rattle.std.specs.Prelude.{length}
use Rattle.pt_scopes.specs.Places.{Places, Part, joined}

unfoldable pub behind : Places → Part → Places
behind s f = joined s (f (length s.regions))
