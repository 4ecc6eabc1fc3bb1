-- All laws of one state of a run, in one word.
use Rattle.std.specs.Prelude.{◌≤◌, ℕ, List, IsTrue, All}
use Rattle.ason_base.specs.{declared.ids.Lsp.Lsp, declared.ids.NodeId.NodeId, Network.{IsTopology, Network}}
use Rattle.mesh_rules.specs.{declared.events.MeshEvent.MeshEvent, Machine.start, Events.{IsRun, after, is_enabled, route_of}}
use Rattle.lsp_laws.specs.{BesideLaw.BackupsGoBeside, CallLaw.{CallsAreTidy, CallsFit}, HopLaw.{HasOneLegEach, LspFits}, JoinedLaw.CallsAreJoined, LabelLaw.{LabelsAreShared, LegsHaveBackLabels, LegsKeepLabels, LiveLegsAreLabelled, NoneCross, SentLabelsAreShared}, LearntLaw.LearntRowsAreTrue, ReportLaw.{DesksTell, ReportsAreOfRoutes, ReportsTell}, RiskLaw.BackupsRecordRisks, StandLaw.{CallsStand, CallsStandOver, GuardedCallsStay, TurnedCallsStay}, WavelengthLaw.CallsKeepWavelengths}
use Rattle.mesh_laws.specs.{AloneLaw.ActivationsAreAdmitted, ContendLaw.UncontendedAreAdmitted, HeardLaw.ListsAreLawful, HomeLaw.StaysAtHome, KnownLaw.KnownFibresComeIn, OrderLaw.CallsAreOrdered, RestLaw.{RunEnds, work_added, items_handled}, RestorationLaw.RestorationHolds, SafeLaw.IsSafe, SetupLaw.{CallsAreDecided, LspsAreAnswered}, InOrderLaw.RestoredInOrder, SoonLaw.RestoredSoon, ServiceLaw.Serves, SurveyLaw.{CalmIsShown, ContendsAreListed}}

-- what holds of the state to which these events lead from the start
pub record LawsHold (t : Network) (events : List MeshEvent) : Type 0 where
  -- at each node: a label of a fibre is one LSP's, or backups share it whose primaries have no risk in common, and at
  -- most one backup that uses it is activated; a Live leg has its labels; and each call fits its legs and its reports
  pub labels : (n : ℕ) → LabelsAreShared ((after t start events).nodes n).legs
  pub labelled : (n : ℕ) → LiveLegsAreLabelled ((after t start events).nodes n).legs
  -- the leg of a two-way LSP has a label for each fibre of the way back, as long as it isn't torn, and another leg none
  pub backs : (n : ℕ) → LegsHaveBackLabels ((after t start events).nodes n).legs
  -- a label that is sent on a fibre is one LSP's, or backups' whose primaries have over a topology no risk in common
  pub sent : (n : ℕ) → SentLabelsAreShared t ((after t start events).nodes n).legs
  -- and so is one that is about to be sent, at each cut of the list of messages that give it
  pub heard : ListsAreLawful t events
  -- of two backups that cross on a link with one label at most one is activated
  pub crossing : NoneCross (after t start events)
  -- a leg at a node that doesn't convert has one label each way, and a label that it takes is one of its link's
  pub kept : (n : NodeId) → LegsKeepLabels t n ((after t start events).nodes n.0).legs
  pub calls : (n : ℕ) → CallsFit n ((after t start events).nodes n)
  -- the cause and the ticks of each call fit its state, and the call is that of a posted setup
  pub tidy : (n : ℕ) → CallsAreTidy ((after t start events).nodes n).calls
  pub ordered : CallsAreOrdered t events
  -- over each event that is enabled a call stands with its working LSP and its backup, unless it is released
  pub stand : (e : MeshEvent) → IsTrue (is_enabled t (after t start events) e) → CallsStand t (after t start events) e
  -- and so it does over any events with which the run goes on
  pub until : (later : List MeshEvent) → IsRun t (after t start events) later →
      CallsStandOver t (after t start events) later
  -- over each event that is enabled a guarded call turns only where a fibre of its working LSP is reported
  pub guarded : (e : MeshEvent) → IsTrue (is_enabled t (after t start events) e) →
      GuardedCallsStay t (after t start events) e
  -- and a turned call goes back only where none is
  pub turned : (e : MeshEvent) → IsTrue (is_enabled t (after t start events) e) →
      TurnedCallsStay t (after t start events) e
  -- each fibre that is reported of an LSP of a call is of the LSP's route
  pub reported : (n : ℕ) → All (ReportsAreOfRoutes t events) ((after t start events).nodes n).calls
  -- each fibre that a node knows to be down comes in there
  pub known : KnownFibresComeIn t (after t start events)
  -- each hop of each LSP has a shape of the table
  pub one_leg : HasOneLegEach (after t start events)
  pub hops : (l : Lsp) → LspFits t (after t start events) l (route_of t start events l)
  -- over a topology messages are under way between neighbours alone, and items stand on nodes' desks alone
  pub home : IsTopology t → StaysAtHome t (after t start events)
  -- no label of a fibre is cross-connected for two LSPs
  pub safe : IsSafe t (after t start events)
  -- each call that stands is cross-connected from end to end; the backup of a guarded or a stuck one is reserved so,
  -- while legs of it may still be cross-connected after the call went back; and that of a turned one is cross-connected
  pub joined : CallsAreJoined t events
  -- along the routes of these LSPs the wavelength changes at converting nodes alone, there and back
  pub wavelengths : CallsKeepWavelengths t events
  -- what a node learnt of links is true of the network
  pub learnt : LearntRowsAreTrue t (after t start events)
  -- the route of each backup stands beside that of the working LSP that it guards
  pub beside : BackupsGoBeside t events
  -- over a topology each backup's leg records the risks of the working LSP's route
  pub risks : IsTopology t → BackupsRecordRisks t events
  -- over a topology the items of each desk tell the node which of its fibres in are physically down
  pub desks : IsTopology t → DesksTell t (after t start events)
  -- and what an LSP's Notifies on their way tell, on what the call knows, is what the nodes of its route know
  pub reports : IsTopology t → ReportsTell t events
  -- and while one group alone has failed no activation is refused
  pub admitted : IsTopology t → ActivationsAreAdmitted t events
  -- so once nothing is under way each guarded call is carried from end to end over fibres that are up, by its backup
  -- where its working LSP is hit
  pub restored : IsTopology t → RestorationHolds t events
  -- and it is so after as many sweeps as its own routes are long, while nothing else is posted
  pub soon : IsTopology t → RestoredSoon t events
  -- or sooner, where the nodes have their parts of each sweep in order
  pub in_order : IsTopology t → RestoredInOrder t events
  -- nor is an activation refused while two groups alone fail that don't contend
  pub uncontended : IsTopology t → UncontendedAreAdmitted t events
  -- and the survey of the state's rows lists all calls that would contend
  pub listed : IsTopology t → ContendsAreListed t events
  -- and it is calm where nothing is under way, no group has failed and by its rows each backup is Asked or Held
  pub shown : IsTopology t → CalmIsShown t events
  -- and of the events that take a message or handle an item there are at most so many for each order, each failure or
  -- repair, and each tick
  pub rests : IsTopology t → items_handled events ≤ work_added t events
  -- so after these only so many can follow while nothing more is posted and no node ticks
  pub ends : IsTopology t → RunEnds t events
  -- an LSP that was begun so many sweeps ago as its route has hops, there and back, is answered
  pub answered : LspsAreAnswered t events
  -- and its call is decided
  pub decided : CallsAreDecided t events
  -- and the network serves: orders act, nothing is left at rest, no refusal is without a cause, and calls stand
  pub serves : Serves t events

-- over every network and every run
abbrev pub EveryRunKeepsTheLaws : Type 0
EveryRunKeepsTheLaws = (t : Network) (events : List MeshEvent) → IsRun t start events → LawsHold t events
