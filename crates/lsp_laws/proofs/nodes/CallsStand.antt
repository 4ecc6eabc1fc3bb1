-- A call stands until its release, with its working LSP and its backup.
use Rattle.std.proofs.Common.{◌≡◌, true, List, [], ◌∷◌, refl, ◌∙◌, inl, inr}
use Rattle.ason_base.specs.{declared.tables.CallRec.CallRec, Network.Network}
use Rattle.mesh_rules.specs.{declared.events.MeshEvent.MeshEvent, Events.{IsRun, after, step}, LocalNodes.local_node, Machine.{Mesh, start}}
use Rattle.lsp_laws.specs.StandLaw.{CallsStand, CallsStandOver, EveryCallStands, EveryCallStandsUntilReleased, CallStandsOn, is_standing_call}
use Rattle.lsp_laws.proofs.{nodes.CallMoves.{IsSameCall, asking-stands}, nodes.CallChanges.OfAny, nodes.CallOver.{AnySent, CameOver, step-stands as over}, nodes.SameCalls.becomes-same, nodes.Facts.MeshFacts, nodes.NodeRuns.{facts-hold, facts-step}}

-- where nothing of the call changes
stands-still : (c : CallRec) → is_standing_call c.state ≡ true → CallStandsOn c c
stands-still c standing =
    record { number = refl; egress = refl; work = refl; stands = standing; back = λ e. (e, refl) }

stands-same : (c d : CallRec) → is_standing_call c.state ≡ true → IsSameCall OfAny c d → CallStandsOn c d
stands-same c d standing same = record {
  number = same.moves.number;
  egress = same.egress;
  work = elim same.work [
    | inl is ↦ is
    | inr gone ↦ absurd (asking-stands c.state gone.1 standing)
  ];
  stands = same.moves.stands standing;
  back = same.moves.back;
}

step-stands : (t : Network) (s : Mesh) (e : MeshEvent) → MeshFacts t s → CallsStand t s e
step-stands t s e facts n k c found standing other =
    over k c (CallStandsOn c) (stands-still c standing) t s e n
    (λ m d is at way. stands-same c d standing
    (becomes-same OfAny (local_node t m) (s.nodes m.0) (CameOver s e) AnySent (λ g m j f found first into. tt) c d way))
    (λ m. (facts.node m).calls_rise) found other

-- over one event
pub every_call_stands : EveryCallStands
every_call_stands t events run e enabled = step-stands t (after t start events) e (facts-hold t events run)

-- Until its release

stands-then : (c d e : CallRec) → CallStandsOn c d → CallStandsOn d e → CallStandsOn c e
stands-then c d e first second = record {
  number = second.number ∙ first.number;
  egress = second.egress ∙ first.egress;
  work = second.work ∙ first.work;
  stands = second.stands;
  back = λ h. let b = first.back h in let a = second.back b.0 in (a.0, a.1 ∙ b.1);
}

stands-over : (t : Network) (s : Mesh) → MeshFacts t s → (events : List MeshEvent) → IsRun t s events →
    CallsStandOver t s events
stands-over t s facts [] run n k c found standing unreleased = (c, found, stands-still c standing)
stands-over t s facts (e ∷ events) run n k c found standing unreleased =
    let one = step-stands t s e facts n k c found standing unreleased.0 in
    let more = stands-over t (step t s e) (facts-step t s e run.0 facts) events run.1 n k one.0 one.1 one.2.stands
    unreleased.1 in
    (more.0, more.1, stands-then c one.0 more.0 one.2 more.2)

-- over any events
pub every_call_stands_until_released : EveryCallStandsUntilReleased
every_call_stands_until_released t events run later more =
    stands-over t (after t start events) (facts-hold t events run) later more
