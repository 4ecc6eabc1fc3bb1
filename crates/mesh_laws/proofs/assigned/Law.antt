-- Once a setup alone has come to rest, its call stands just where its route had free wavelengths.
use Rattle.std.proofs.{Common.{◌≡◌, ◌≢◌, ℕ, true, false, nat_eq, not, List, [], ◌∷◌, ◌++◌, refl, sym, ap, ◌∙◌, subst, arith, inl, inr}, lemmas.List.Elements.recursion_from_All}
use Rattle.std.specs.Prelude.{◌⊎◌, ◌&&◌, Option, Some, None}
use Rattle.ason_base.specs.{Network.{IsTopology, Network, is_node_id}, Routes.makes_route, declared.calls.CallState.CallState, declared.calls.CallState.TheVariants.Blocked, declared.commands.Command.Command, declared.commands.Command.TheVariants.Setup, declared.ids.CallNo.CallNo, declared.ids.Lsp.Lsp, declared.ids.NodeId.NodeId, declared.steps.Step.Step, declared.tables.CallRec.CallRec}
use Rattle.ason_base.proofs.Bools.{and-left, and-right}
use Rattle.mesh_rules.specs.{declared.events.MeshEvent.MeshEvent, declared.events.MeshEvent.TheVariants.Post, Calls.find_call, Commands.{has_backup_way, is_valid}, Events.{IsRun, after, or_route, route_of, step}, Machine.{Mesh, start}, Quiet.IsQuiet}
use Rattle.mesh_nodes.proofs.CallList.{found-call-all}
use Rattle.lsp_laws.proofs.{hops.HopLaws.{carried, follows, step_facts}, hops.Planned.Follows, hops.Run.{step_carries, step_routes}, nodes.Facts.MeshFacts, nodes.NodeRuns.{facts-hold, facts-step}}
use Rattle.mesh_laws.specs.{RestedLaw.is_call_settled, SetupAloneLaw.{EverySetupIsDecided, HasWavelengths, IsBlocked, IsSetUpAlone, SetupEnds, Stands}}
use Rattle.mesh_laws.proofs.{acts.Given.given-followed, alone.AloneRuns.{after-append, run-first, run-later}, assigned.Begun.{next_of, order_of}, assigned.Tracks.{IsAsking, IsBare, IsPlain, IsRefused}, assigned.Run.{fresh, pend-run, pend-well, route-append}, assigned.Setting.Setting, assigned.Stands.had-wavelengths, rested.Rested.nothing_left_at_rest, retried.Pending.{Pending, posted-pends}}

never-blocked : (f : CallState) → IsPlain ⊥ f → f ≡ Blocked → ⊥
never-blocked _ IsAsking e = cc e
never-blocked _ IsBare e = cc e
never-blocked _ (IsRefused may) e = may

apart-of : (a b : ℕ) → not (nat_eq a b) ≡ true → a ≢ b
apart-of a b e = λ is. (let test : nat_eq a b ≡ true = grind arith in let none : not (nat_eq a b) ≡ false = rw test refl in cc (e, none))

-- the setup of a route of at least one link
module _ (t : Network) (valid : IsTopology t) (events : List MeshEvent) (run : IsRun t start events) (k : CallNo)
    (n to : NodeId) (hop : Step) (further : List Step) (alone : IsSetUpAlone t events k n to (hop ∷ further))
    (quiet : IsQuiet (after t start events)) where
  abbrev order : Command
  order = Setup k n to false false (Some (hop ∷ further)) None

  abbrev s : Mesh
  s = after t start alone.before

  abbrev now0 : Mesh
  now0 = step t (after t start alone.before) (Post order)

  abbrev l : Lsp
  l = next_of (after t start alone.before) n

  parted : IsRun t start (alone.before ++ Post (Setup k n to false false (Some (hop ∷ further)) None) ∷ alone.since)
  parted = subst (IsRun t start) (sym alone.parts) run

  run0 : IsRun t start alone.before
  run0 = run-first t start alone.before (Post order ∷ alone.since) parted

  later : IsRun t (after t start alone.before) (Post (Setup k n to false false (Some (hop ∷ further)) None) ∷ alone.since)
  later = run-later t start alone.before (Post order ∷ alone.since) parted

  facts : MeshFacts t (after t start alone.before)
  facts = facts-hold t alone.before run0

  valid_order : is_valid t (Setup k n to false false (Some (hop ∷ further)) None) ≡ true
  valid_order = and-left (is_valid t order) _ later.0

  ways : ((is_node_id t.nodes n && is_node_id t.nodes to && not (nat_eq n.0 to.0)) && makes_route t n to (hop ∷ further)) ≡ true
  ways = and-left _ (has_backup_way t n to false (Some (hop ∷ further)) None) valid_order

  made : makes_route t n to (hop ∷ further) ≡ true
  made = and-right (is_node_id t.nodes n && is_node_id t.nodes to && not (nat_eq n.0 to.0)) _ ways

  apart : n.0 ≢ to.0
  apart = apart-of n.0 to.0
      (and-right (is_node_id t.nodes n && is_node_id t.nodes to) _
      (and-left (is_node_id t.nodes n && is_node_id t.nodes to && not (nat_eq n.0 to.0)) _ ways))

  to_end : after t (step t (after t start alone.before) (Post (Setup k n to false false (Some (hop ∷ further)) None))) alone.since
      ≡ after t start events
  to_end = sym (after-append t start alone.before (Post order ∷ alone.since)) ∙ ap (after t start) alone.parts

  facts0 : MeshFacts t (step t (after t start alone.before) (Post (Setup k n to false false (Some (hop ∷ further)) None)))
  facts0 = facts-step t s (Post order) later.0 facts

  pending : Pending (after t start alone.before) n (order_of k n to (hop ∷ further))
      (step t (after t start alone.before) (Post (Setup k n to false false (Some (hop ∷ further)) None)))
  pending =
      let p = posted-pends s n (order_of k n to (hop ∷ further)) alone.quiet in
      record { nodes = p.nodes; mail = p.mail; here = p.here; others = p.others }

  -- the order is no longer on the desk
  never-pends : Pending (after t start alone.before) n (order_of k n to (hop ∷ further)) (after t start events) → ⊥
  never-pends p = (let none = quiet.desks n.0 in let here = p.here in cc (none, here))

  -- the LSP wasn't sent before
  unsent : route_of t start alone.before (next_of (after t start alone.before) n) ≡ None
  unsent = go (route_of t start alone.before l) refl (follows t alone.before run0 l)
    where
      go : (o : Option (List Step)) → route_of t start alone.before l ≡ o → Follows t s (route_of t start alone.before) l o → o ≡ None
      go None is f = refl
      go (Some r) is (e, q, planned) = absurd (let less = planned.number in omega (arith, less))

  sent-so : route_of t (step t (after t start alone.before) (Post (Setup k n to false false (Some (hop ∷ further)) None))) alone.since
      (next_of (after t start alone.before) n) ≡ Some (hop ∷ further) →
      route_of t start events (next_of (after t start alone.before) n) ≡ Some (hop ∷ further)
  sent-so sent =
      ap (λ es. route_of t start es l) (sym alone.parts)
      ∙ route-append t start alone.before (Post order ∷ alone.since) l
      ∙ ap (λ o. or_route o (route_of t now0 alone.since l)) unsent ∙ sent

  -- a route with wavelengths isn't refused
  not-blocked : HasWavelengths t (after t start alone.before) (hop ∷ further) → (d : CallRec) →
      find_call k ((after t start events).nodes n.0).calls ≡ Some d → d.state ≡ Blocked → ⊥
  not-blocked has d found blocked =
      go (pend-well t valid alone.before run0 alone.quiet k n to hop further alone.new alone.up alone.lsp alone.tunnel alone.room
      made apart has.0 has.1 now0 alone.since (step_routes t s (Post order) (route_of t start alone.before)) facts0
      (step_carries t s (Post order) (route_of t start alone.before) later.0 (step_facts t s facts) (carried t alone.before run0))
      pending later.1 alone.only)
    where
      go : Pending s n (order_of k n to (hop ∷ further)) (after t now0 alone.since)
          ⊎ Setting ⊥ t s l k n (after t now0 alone.since) → ⊥
      go (inl p) = never-pends (subst (Pending s n (order_of k n to (hop ∷ further))) to_end p)
      go (inr setting) =
          let end = subst (Setting ⊥ t s l k n) to_end setting in
          let one : end.tracks.call ≡ d = (let there = end.tracks.found in cc (there, found)) in
          never-blocked end.tracks.call.state end.tracks.plain (ap (λ (x : CallRec). x.state) one ∙ blocked)

  ended : Setting (Unit {0}) t (after t start alone.before) (next_of (after t start alone.before) n) k n (after t start events) →
      route_of t start events (next_of (after t start alone.before) n) ≡ Some (hop ∷ further) →
      SetupEnds t (after t start alone.before) (after t start events) k n (hop ∷ further)
  ended end sent = go end.tracks.call.state refl end.tracks.plain
    where
      go : (f : CallState) → end.tracks.call.state ≡ f → IsPlain (Unit {0}) f → SetupEnds t s (after t start events) k n (hop ∷ further)
      go _ is IsAsking =
          absurd (let settled : is_call_settled end.tracks.call.state ≡ true =
          found-call-all (λ d. is_call_settled d.state ≡ true) k ((after t start events).nodes n.0).calls end.tracks.call end.tracks.found
          (recursion_from_All (λ d. is_call_settled d.state ≡ true) ((after t start events).nodes n.0).calls
          ((nothing_left_at_rest t events run quiet).calls n.0)) in
          let never : is_call_settled end.tracks.call.state ≡ false = rw is refl in cc (settled, never))
      go _ is IsBare =
          Stands end.tracks.call end.tracks.found is
          (had-wavelengths t s facts events run quiet l n refl
          (fresh t valid alone.before run0 alone.quiet k n to hop further alone.new alone.up alone.lsp alone.tunnel alone.room made apart)
          end.only (hop ∷ further) sent k end.tracks.call end.tracks.found is (works end.tracks.work))
        where
          works : (end.tracks.call.state ≡ Blocked) ⊎ (end.tracks.call.work ≡ Some l) → end.tracks.call.work ≡ Some l
          works (inl blocked) = absurd (cc (is, blocked))
          works (inr work) = work
      go _ is (IsRefused may) =
          IsBlocked end.tracks.call end.tracks.found is (λ has. not-blocked has end.tracks.call end.tracks.found is)

  pub decided : SetupEnds t (after t start alone.before) (after t start events) k n (hop ∷ further)
  decided = go (pend-run t valid alone.before run0 alone.quiet k n to hop further alone.new alone.up alone.lsp alone.tunnel
      alone.room made apart now0 alone.since facts0 pending later.1 alone.only)
    where
      go : Pending s n (order_of k n to (hop ∷ further)) (after t now0 alone.since)
          ⊎ (Setting (Unit {0}) t s l k n (after t now0 alone.since) × (route_of t now0 alone.since l ≡ Some (hop ∷ further))) →
          SetupEnds t s (after t start events) k n (hop ∷ further)
      go (inl p) = absurd (never-pends (subst (Pending s n (order_of k n to (hop ∷ further))) to_end p))
      go (inr both) = ended (subst (Setting (Unit {0}) t s l k n) to_end both.0) (sent-so both.1)

-- over every topology and every run
pub every_setup : EverySetupIsDecided
every_setup t events valid run k n to [] alone quiet =
    let parted : IsRun t start (alone.before ++ Post (Setup k n to false false (Some []) None) ∷ alone.since) =
    subst (IsRun t start) (sym alone.parts) run in
    let later = run-later t start alone.before (Post (Setup k n to false false (Some []) None) ∷ alone.since) parted in
    let order : is_valid t (Setup k n to false false (Some []) None) ≡ true =
    and-left (is_valid t (Setup k n to false false (Some []) None)) _ later.0 in
    let ways = and-left (is_node_id t.nodes n && is_node_id t.nodes to && not (nat_eq n.0 to.0) && makes_route t n to [])
    (has_backup_way t n to false (Some []) None) order in
    let made : makes_route t n to [] ≡ true =
    and-right (is_node_id t.nodes n && is_node_id t.nodes to && not (nat_eq n.0 to.0)) _ ways in
    let apart = apart-of n.0 to.0
    (and-right (is_node_id t.nodes n && is_node_id t.nodes to) _
    (and-left (is_node_id t.nodes n && is_node_id t.nodes to && not (nat_eq n.0 to.0)) _ ways)) in
    absurd (let never = given-followed t valid n to [] apart made in cc never)
every_setup t events valid run k n to (hop ∷ further) alone quiet = decided t valid events run k n to hop further alone quiet
