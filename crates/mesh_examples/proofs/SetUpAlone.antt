-- A call that is set up alone, in a network in which nothing is: it stands, and by the law of a setup alone its route had
-- free wavelengths.
use Rattle.std.proofs.Common.{◌≡◌, true, false, List, [], ◌∷◌, refl, arith}
use Rattle.std.specs.Prelude.{Some, None}
use Rattle.ason_base.specs.Labels as labels
use Rattle.ason_base.specs.{Network.{IsTopology, Network}, declared.calls.CallState.TheVariants.Bare, declared.calls.Cause.TheVariants.Unset, declared.calls.Phase.TheVariants.Live}
use Rattle.mesh_rules.specs.{declared.events.MeshEvent.MeshEvent, Events.{IsRun, after}, Machine.start}
use Rattle.mesh_laws.specs.SetupAloneLaw.{IsSetUpAlone, SetupEnds}
use Rattle.mesh_laws.proofs.assigned.Law.{every_setup}
use Rattle.mesh_examples.proofs.{Ends.{is_still, quiet, runs, topology}, Scene.{only_at as alone_at, call, seen_unreported, desk, link_spec, leg, node, step_over, Reaches, Seen, sets_up_alone, spec, still, takes_each}}

abbrev network : Network
network = record {
  wait = 0;
  nodes = spec 1 false ∷ spec 2 false ∷ [];
  links = link_spec 1 1 2 1 [] ∷ [];
}

abbrev since : List MeshEvent
since = desk 1 ∷ takes_each ((2, 1) ∷ (1, 2) ∷ [])

abbrev events : List MeshEvent
events = sets_up_alone 1 1 2 (step_over 1 1 ∷ []) ∷ since

abbrev as_reached : Seen
as_reached = record (still 2 1) {
  legs = (leg 1 1 Live None (Some 1) 0 1 0 ∷ []) ∷ (leg 1 1 Live (Some 1) None 1 0 0 ∷ []) ∷ [];
  calls = alone_at 2 1 (seen_unreported 1 Bare Unset ∷ []);
  known = 1 ∷ 1 ∷ [];
}

reaches : Reaches network events as_reached
unfolding labels.numbers_from
reaches = record { enabled = refl; reached = refl }

valid : IsTopology network
valid = topology network refl

run : IsRun network start events
run = runs network start events reaches.enabled

alone : IsSetUpAlone network events (call 1) (node 1) (node 2) (step_over 1 1 ∷ [])
alone = record {
  before = [];
  since = since;
  parts = refl;
  quiet = record { desks = λ n. refl; mail = λ u d. refl };
  new = refl;
  up = refl;
  lsp = omega arith;
  tunnel = omega arith;
  room = λ m. omega arith;
  only = assumption tt;
}

nothing_waits : is_still network (after network start events) ≡ true
unfolding labels.numbers_from
nothing_waits = refl

ends : SetupEnds network start (after network start events) (call 1) (node 1) (step_over 1 1 ∷ [])
unfolding alone
ends =
    every_setup network events valid run (call 1) (node 1) (node 2) (step_over 1 1 ∷ []) alone
    (quiet network events valid run nothing_waits)
