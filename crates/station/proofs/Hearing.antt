-- Bytes that spell nothing.
use Rattle.std.proofs.{Common.{◌≡◌, ◌<◌, ◌+◌, ℕ, List, [], ◌∷◌, ◌++◌, length, refl, sym, ap, ◌∙◌, subst, arith}, lemmas.List.length-append, lemmas.List.Elements.{All-contains, All-from_recursion, Contains-get_or}, lemmas.List.Quantifiers.position-Some}
use Rattle.std.specs.{Prelude.{IsSome, IsTrue, None, Option, Some, position}, List.{AllByRecursion, AllZip, Contains}}
use Rattle.ason_base.specs.{declared.limits.TheConstants.MOST_EVENTS, declared.commands.Event.TheVariants.Noise, declared.ids.NodeId.NodeId}
use Rattle.ason_base.proofs.Bridges.{same_node}
use Rattle.flood.specs.Frames.{SpellsNothing}
use Rattle.mesh_nodes.specs.LocalNodes.{is_neighbour}
use Rattle.mesh_rules.specs.LocalNodes.{LocalNode}
use Rattle.control_channels.specs.{declared.frames.Frame.Frame, Controllers.{Becomes, ControllerState, IsControllerStep, meaning}}
use Rattle.control_channels.specs.declared.inputs.CoreInput.TheVariants as input
use Rattle.station_rings.specs.LinkStates.{LinkState}
use Rattle.round_rules.specs.{Entered.{HasEntered, me_of}, Moves.IsSentOver, Doings.Did, Functions.clock_of, States.{IsStationOf, StationState}}
use Rattle.world_merge.specs.Deeds.{Heard}
use Rattle.round_rules.proofs.Parting.{noise-of}
use Rattle.station.specs.{Fits.LinkKeeps, Noise.HasHeard, Sending.is_link_to}
use Rattle.station.proofs.Sending.{sent-start}

-- a link that leads to this neighbour
pub record LeadsTo (u : NodeId) (links : List LinkState) : Type 0 where
  pub link : LinkState
  pub there : Contains links link
  pub peer : link.peer ≡ u

leads_at : (u : NodeId) (links : List LinkState) (o : Option ℕ) → position (is_link_to u) links ≡ o → IsSome o →
    LeadsTo u links
leads_at u links None at some = absurd (cc (some))
leads_at u [] (Some i) at some = absurd (cc (at))
leads_at u (l ∷ links) (Some i) at some =
    let is = position-Some (is_link_to u) (l ∷ links) i l at in
    record { link = _; there = Contains-get_or (l ∷ links) i l is.0; peer = same_node _ u is.1 }

pub leads-to : (u : NodeId) (links : List LinkState) → IsSome (position (is_link_to u) links) → LeadsTo u links
leads-to u links some = leads_at u links (position (is_link_to u) links) refl some

-- it is a neighbour of the node
pub near-to : (p : LocalNode) (steps clock : ℕ) (u : NodeId) (links : List LinkState) →
    AllByRecursion (LinkKeeps p steps clock) links → IsSome (position (is_link_to u) links) → IsTrue (is_neighbour p u)
near-to p steps clock u links all some =
    let l = leads-to u links some in
    subst (λ (n : NodeId). IsTrue (is_neighbour p n)) l.peer (All-contains (LinkKeeps p steps clock) links l.link
    (All-from_recursion (LinkKeeps p steps clock) links all) l.there).near

-- no frame is sent
pub none-sent : (c d : ControllerState) (u : NodeId) (bytes : List ℕ) (frames : List Frame) → SpellsNothing bytes →
    IsControllerStep c d (input.Frame u bytes) frames → frames ≡ []
none-sent c d u bytes frames nothing is = (is.reaction.1 nothing).made.frames

-- the controller takes a copy of the bytes, and sends nothing
pub none-taken : (u : NodeId) (bytes taken : List ℕ) (c d : ControllerState) (frames : List Frame) → taken ≡ bytes →
    SpellsNothing bytes → IsControllerStep c d (input.Frame u taken) frames →
    IsControllerStep c d (input.Frame u bytes) []
none-taken u bytes taken c d frames take nothing step =
    let is : IsControllerStep c d (input.Frame u bytes) frames =
    subst (λ xs. IsControllerStep c d (input.Frame u xs) frames) take step in
    subst (IsControllerStep c d (input.Frame u bytes)) (none-sent c d u bytes frames nothing is) is

-- a line is written, and nothing else changes
abbrev pub noise-entered : (u me : NodeId) (bytes written : List ℕ) (old new : StationState) → written ≡ bytes →
    me ≡ me_of old → old.controller.steps < MOST_EVENTS →
    IsControllerStep old.controller new.controller (input.Frame u bytes) [] →
    new ≡ record old {
      controller = new.controller;
      clock = old.clock + 1;
      log = old.log ++ record { stamp = old.clock + 1; node = Some me; event = Noise me u written } ∷ [];
    } → HasEntered (input.Frame u bytes) (Noise (me_of old) u bytes) (old.clock + 1) old new
noise-entered u me bytes written old new write my few step same =
    record {
      frames = [];
      step = step;
      few = few;
      above = omega arith;
      clock = ap (λ (s : StationState). s.clock) same;
      log =
          ap (λ (s : StationState). s.log) same
          ∙ (λ i. old.log
          ++ record { stamp = old.clock + 1; node = Some (my i); event = Noise (my i) u (write i) } ∷ []);
      links =
          subst (AllZip (IsSentOver (old.clock + 1) []) old.links) (sym (ap (λ (s : StationState). s.links) same))
          (sent-start (old.clock + 1) old.links);
      desk = ap (λ (s : StationState). s.desk) same;
      spare = ap (λ (s : StationState). s.spare) same;
      held = ap (λ (s : StationState). s.held) same;
      lines = ap (λ (s : StationState). s.lines) same;
    }

-- the station has heard them
pub heard : (u : NodeId) (bytes : List ℕ) (old new : StationState) → SpellsNothing bytes →
    IsSome (position (is_link_to u) old.links) → new.links ≡ old.links →
    HasEntered (input.Frame u bytes) (Noise (me_of old) u bytes) (old.clock + 1) old new → HasHeard u bytes old new
heard u bytes old new nothing some links r = record {
  stands = λ t n ds is.
      subst (λ v. IsStationOf t n (ds ++ Did (Heard (clock_of ds + 1) v bytes) ∷ []) new) l.peer
      (noise-of t n ds l.link bytes old new is l.there nothing
      (subst (λ v. HasEntered (input.Frame v bytes) (Noise (me_of old) v bytes) (old.clock + 1) old new) (sym l.peer)
      r));
  links = links;
  lines = r.lines;
  grows = ap length r.log ∙ length-append old.log _;
  node = λ i. record { place = (idle.place i); state = (idle.state i) };
  log = (record { stamp = old.clock + 1; node = Some (me_of old); event = Noise (me_of old) u bytes }, refl, r.log);
}
  where
    idle : Becomes old.controller.node new.controller.node old.controller.adjacencies new.controller.adjacencies
        (meaning old.controller.node old.controller.adjacencies)
    idle = (r.step.reaction.1 nothing).made.becomes

    l : LeadsTo u old.links
    l = leads-to u old.links some
