-- Pieces that are taken one call after another.
use Rattle.std.proofs.Common.{[], ◌∷◌, ◌++◌, inl, inr, append_assoc, append-nil}
use Rattle.pt_base.specs.Taken.{Pieces, Takes, TookFront, TakesFront}

module _ (old new : Pieces → Pieces → Type 0) where
  pub takes_nothing : ((g h : Pieces) → old g h → new g h) → Takes old new []
  takes_nothing same g h t = rw append-nil (same g h t)

module _ (old mid new : Pieces → Pieces → Type 0) where
  pub takes_then : (ps qs : Pieces) → Takes old mid ps → Takes mid new qs → Takes old new (ps ++ qs)
  takes_then ps qs a b g h t = rw (← append_assoc) (b g (h ++ ps) (a g h t))

module _ (Took : Pieces → Type 0) where
  front_later : (h ps qs : Pieces) → TookFront Took (h ++ ps) qs → TookFront Took h (ps ++ qs)
  front_later h [] qs t = rw append-nil at t
  front_later h (p ∷ ps) qs t = inr (inr (front_later (h ++ p ∷ []) ps qs (rw append_assoc t)))

  front_shorter : (h ps qs : Pieces) → TookFront Took h ps → TookFront Took h (ps ++ qs)
  front_shorter h [] [] t = t
  front_shorter h [] (q ∷ qs) t = inl t
  front_shorter h (p ∷ ps) qs t = elim t [ inl a ↦ inl a | inr b ↦ inr (elim b [ inl part ↦ inl part | inr more ↦ inr (front_shorter (h ++ p ∷ []) ps qs more) ]) ]

  pub front_none : (h ps : Pieces) → Took h → TookFront Took h ps
  front_none h [] t = t
  front_none h (p ∷ ps) t = inl t

module _ (old mid new : Pieces → Pieces → Type 0) where
  -- what was taken whole, and then a front of more
  pub takes_then_front : (ps qs : Pieces) → Takes old mid ps → TakesFront mid new qs → TakesFront old new (ps ++ qs)
  takes_then_front ps qs a b = record { front = λ g h t. front_later (new g) h ps qs (b.front g (h ++ ps) (a g h t)) }

module _ (old new : Pieces → Pieces → Type 0) where
  -- a front of some is a front of more
  pub front_of_more : (ps qs : Pieces) → TakesFront old new ps → TakesFront old new (ps ++ qs)
  front_of_more ps qs a = record { front = λ g h t. front_shorter (new g) h ps qs (a.front g h t) }

  pub front_of_none : (ps : Pieces) → ((g h : Pieces) → old g h → new g h) → TakesFront old new ps
  front_of_none ps same = record { front = λ g h t. front_none (new g) h ps (same g h t) }
