-- What waits stands at a call.
use Rattle.std.proofs.Common.{◌≡◌, ◌∙◌, List, ◌∷◌, [], Some, None, refl, sym, ap, subst}
use Rattle.std.specs.Prelude.{codes}
use Rattle.pt_heap.specs.declared.value.Value.{Value}
use Rattle.pt_frames.specs.declared.activation.Activation.{Activation}
use Rattle.pt_frames.specs.declared.activations.OpenActivation.{OpenActivation}
use Rattle.pt_frames.specs.declared.purpose.Purpose.{Purpose}
use Rattle.pt_places.specs.declared.places.Place.{Place}
use Rattle.pt_places.specs.PlaceTable.{entry, place_at}
use Rattle.sem_run.specs.run.Machine.{BlockId}
use Rattle.sem_rows.specs.pt_host.World.{Program}
use Rattle.sem_rows.specs.sem_code_machine.code_machine.CodeBlocks.{CodeBlocks}
use Rattle.pt_transfers.specs.pt_machine_state.declared.blocks.Blocks.{Blocks}
use Rattle.pt_transfers.specs.pt_machine_state.declared.machine.Machine.{Machine}
use Rattle.pt_transfers.specs.pt_machine_state.declared.machine.Standing.{Standing}
use Rattle.pt_transfers.specs.pt_machine_state.declared.machine.Standing.TheVariants as standing
use Rattle.pt_transfers.specs.pt_machine_state.declared.machine.Stride.{Stride}
use Rattle.pt_transfers.specs.pt_machine_state.declared.machine.Stride.TheVariants as stride
use Rattle.pt_transfers.specs.pt_machine_state.declared.writes.Writes.{Writes}
use Rattle.pt_transfers.specs.pt_machine_state.Applies.{Closes, Takes}
use Rattle.pt_transfers.specs.pt_machine_state.Blocks.{AreBlocksOf, block_at}
use Rattle.pt_transfers.specs.pt_machine_state.Changes.{behind_block, end_in, events_of, left_at, left_events, suspended}
use Rattle.pt_transfers.specs.pt_machine_state.Writing.{Adds}
use Rattle.pt_transfers.proofs.pt_machine_state.CloseLemmas.{block_raises, block_returns}
use Rattle.pt_transfers.specs.pt_machine_state.Views.{AllWait, none, more, Waits, WaitsFor, block_of}

module _ (program : Program) (code : CodeBlocks Value) (blocks : Blocks) (known : AreBlocksOf program code blocks) where
  at-call : (above : BlockId) (o : OpenActivation) (x : Waits) (xs : List Waits) → WaitsFor program code above o x xs
      → entry (block_at blocks (block_of o.activation)).places o.activation.pc.0 ≡ None → ⊥
  at-call above o x xs waits absent =
      let placed : place_at (Some waits.ins) ≡ None = sym (ap place_at waits.there) ∙ (sym ((known (block_of o.activation)).places o.activation.pc.0) ∙ absent) in
      absurd (cc)

  waits-at-call : (a : Activation) (why : Purpose) (above : BlockId) (rest os : List OpenActivation) (xs : List Waits) → AllWait program code above os xs
      → os ≡ record { activation = a; why = why } ∷ rest → entry (block_at blocks (block_of a)).places a.pc.0 ≡ None → ⊥
  waits-at-call a why _ rest _ _ (none b) e absent = absurd (cc)
  waits-at-call a why _ rest _ _ (more b o x os xs waits others) e absent =
      at-call b o x xs waits (ap (λ b. entry (block_at blocks (block_of b)).places b.pc.0) (ap (λ l. first_of l) e) ∙ absent)
    where
      first_of : List OpenActivation → Activation
      first_of [] = a
      first_of (p ∷ ps) = p.activation

-- so there is no end of a block above a place without an instruction
pub no_call : (blocks : Blocks) (m new : Machine) (a : Activation) (s : Standing) (why : Purpose) (w w1 : Writes) (r : Stride)
    → entry (block_at blocks (block_of m.here)).places m.here.pc.0 ≡ None → Closes blocks r (suspended a s why m) w new w1
unfolding Closes
no_call blocks m new a s why w w1 r absent program code n x known own waits =
    absurd (waits-at-call program code blocks known m.here why (block_of a) m.frames.activations (record { activation = m.here; why = why } ∷ m.frames.activations) x.waiting waits refl absent)

-- what a block gave was taken by the activation that waited
pub returns_on : (blocks : Blocks) (m n new : Machine) (closed : Activation) (why : Purpose) (v : Value) (p : Place) (w w0 w1 : Writes) (r : Stride)
    → m.standing ≡ standing.Returns v → closed ≡ m.here → m ≡ suspended m.here m.standing why n → n.standing ≡ standing.AtPlace
    → entry (block_at blocks (block_of n.here)).places n.here.pc.0 ≡ Some p
    → Adds w w0 (events_of (codes "return") [] (block_at blocks (block_of m.here)) m)
    → Takes blocks (block_at blocks (block_of n.here)) p.next closed why v r n w0 new w1 → Closes blocks r m w new w1
returns_on blocks m n new closed why v p w w0 w1 r left same was at is adds takes =
    let e : m ≡ suspended m.here (standing.Returns v) why n = was ∙ ap (λ s. suspended m.here s why n) left in
    subst (λ x. Closes blocks r x w new w1) (sym e)
    (block_returns blocks n m.here why p w w0 w1 at is v r new (subst (λ x. Adds w w0 (events_of (codes "return") [] (block_at blocks (block_of m.here)) x)) e adds)
    (subst (λ x. Takes blocks (block_at blocks (block_of n.here)) p.next x why v r n w0 new w1) same takes))

-- an exception goes to the activation that waited
pub raises_on : (blocks : Blocks) (m n : Machine) (why : Purpose) (v : Value) (p : Place) (w w0 w1 : Writes) (new : Machine)
    → m.standing ≡ standing.Raises v → m ≡ suspended m.here m.standing why n → n.standing ≡ standing.AtPlace → entry (block_at blocks (block_of n.here)).places n.here.pc.0 ≡ Some p
    → Adds w w0 (events_of (codes "return") [] (block_at blocks (block_of m.here)) m)
    → Adds w0 w1 (left_events v (block_at blocks (block_of n.here)) (end_in why v n.heap) (behind_block why n))
    → new ≡ left_at (block_at blocks (block_of n.here)) v (end_in why v n.heap) (behind_block why n) → Closes blocks stride.Goes m w new w1
raises_on blocks m n why v p w w0 w1 new left was at is adds rise new_is =
    let e : m ≡ suspended m.here (standing.Raises v) why n = was ∙ ap (λ s. suspended m.here s why n) left in
    subst (λ x. Closes blocks stride.Goes m w x w1) (sym new_is)
    (subst (λ x. Closes blocks stride.Goes x w (left_at (block_at blocks (block_of n.here)) v (end_in why v n.heap) (behind_block why n)) w1) (sym e)
    (block_raises blocks n m.here why p w w0 w1 at is v (subst (λ x. Adds w w0 (events_of (codes "return") [] (block_at blocks (block_of m.here)) x)) e adds) rise))
