use Rattle.std.proofs.Common.{subst, sym, refl, length, ℕ, ◌≤◌, ◌<◌}
use Rattle.pt_cycles.specs.Search.{at, IsPut}
use Rattle.pt_cycles.proofs.search.Search.close.Goals as goal

pub put-requires : goal.put-requires
put-requires c = record {
  below = subst (λ xs. c.args.start ≤ length xs) (sym c.deref.ensures.value) c.requires.below;
  inside = subst (λ xs. (i : ℕ) → i < length xs → at xs i < length c.args.self.now.states.items) (sym c.deref.ensures.value) c.requires.inside;
}

pub returns : goal.returns
returns c = record {
  path = c.truncate.ensures.items;
  put = subst (λ xs. IsPut c.args.self.now.next c.args.start (length xs) xs c.args.self.now.states.items c.put.new.states.items) c.deref.ensures.value
      c.put.ensures;
  work = refl;
  clusters = refl;
  next = c.in-Some.ensures.1;
}
