-- The network serves: what operators may take for granted after each run, in one word.
use Rattle.std.specs.Prelude.{◌≡◌, List, []}
use Rattle.ason_base.specs.Network.{IsTopology, Network}
use Rattle.mesh_rules.specs.{declared.events.MeshEvent.MeshEvent, Events.after, Machine.start, Quiet.IsQuiet}
use Rattle.mesh_laws.specs.{ActsLaw.{OrdersAct, TornLegsGiveUp}, BackedLaw.BackupsGoAsGiven, CauseLaw.{BusyLegsAreBusy, LacksHaveCauses, LoneCallsHaveCauses, RefusalsAreTold, RefusalsHaveCauses}, KnowsLaw.LearntLinkIsKnown, LightLaw.{LabelsAreOfLinks, LightIsOfOneLsp}, MovesLaw.{BlockedCallsStay, CallsMoveOn}, OthersLaw.{OrdersAreOfOneCall, OrdersLeaveOtherLegs}, RestedLaw.{AllReportsAreTrue, IsRepaired, NothingIsLeft, SentIsTaken}, RetryLaw.RetriesEnd, SetupAloneLaw.SetupsEnd, SourceLaw.{CodesHaveSources, TurnedCallsWait}, WaitLaw.{TicksCount, WaitsAreBelow}}

-- after these events, and over any one event with which they go on
pub record Serves (t : Network) (events : List MeshEvent) : Type 0 where
  -- Light

  -- no light of one label on one fibre is of two circuits
  pub lit : LightIsOfOneLsp t events
  -- and the label of the light that arrives at a node is one of the link's
  pub of_link : LabelsAreOfLinks t events
  -- Rest: once no message is under way and each desk is empty,

  -- no label is held for a call that is gone: each leg is of a call that stands, in the phase of its state, at each
  -- node of its route and no other
  pub rested : IsQuiet (after t start events) → NothingIsLeft t events
  -- what is sent into each fibre is taken out of it at its other end, label by label, and nothing else is
  pub taken : IsQuiet (after t start events) → SentIsTaken t (after t start events)
  -- and each call reports just those fibres of its routes that are physically down
  pub told : IsTopology t → IsQuiet (after t start events) → AllReportsAreTrue t events
  -- where no group is failed any more no call is stuck, and where none is turned nothing of a failure is left
  pub repaired : IsTopology t → IsQuiet (after t start events) → (after t start events).failed ≡ [] →
      IsRepaired (after t start events)
  -- Orders

  -- an order does what it says, or changes nothing where it may not; a call that is refused says why
  pub acts : IsTopology t → OrdersAct t events
  -- an order changes no call but its own
  pub others : OrdersAreOfOneCall t events
  -- nor a leg of an LSP of another call
  pub spared : OrdersLeaveOtherLegs t events
  -- a call that is set up, alone, stands just where its route has free wavelengths
  pub assigned : IsTopology t → SetupsEnd t events
  -- a stuck call that is tried again, alone, turns just where its backup is busy nowhere
  pub retried : RetriesEnd t events
  -- a backup goes over the route that its order gives
  pub backed : BackupsGoAsGiven t events
  -- an LSP that is torn has given its labels up
  pub torn : TornLegsGiveUp t events
  -- Refusals

  -- a node refuses an LSP only for want of labels or of room, for a fibre that is down, or for a risk that it doesn't
  -- know
  pub caused : RefusalsHaveCauses t events
  -- an activation is refused only where another backup uses a label of this one
  pub busy : BusyLegsAreBusy t events
  -- no label is found for an answer only where each one that may go on is kept off
  pub lacks : IsTopology t → LacksHaveCauses t events
  -- a protected call gets no backup only for a cause that stands at its ingress
  pub lone : IsTopology t → LoneCallsHaveCauses t events
  -- and a call is told of the refusal of its LSP with the code that came
  pub refused : RefusalsAreTold t events
  -- Changes

  -- a call stands as it was ordered until its release, and moves from state to state as a table says
  pub moves : CallsMoveOn t events
  -- a blocked call stays as it is until its release
  pub blocked : BlockedCallsStay t events
  -- a turned call changes only by a tick of its node, by a report, or by an order to go back
  pub turned : TurnedCallsWait t events
  -- a code is a call's cause only where a PathErr brought it, where the backup is busy, or where a first link has no
  -- label
  pub coded : CodesHaveSources t events
  -- a tick counts in each call that waits to go back, at the end of the wait it goes back, and no other call changes
  pub counted : TicksCount t events
  -- no call counts as many ticks as the wait
  pub below : WaitsAreBelow t events
  -- what a node learns of a neighbour it knows from then on
  pub learnt : LearntLinkIsKnown t events
