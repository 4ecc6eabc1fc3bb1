-- What concerns one of the groups that alone have failed, in a state and in a rule's answer; and what an answer leaves.
use Rattle.std.proofs.{Common.{◌≡◌, ℕ, true, false, cond, not, nat_eq, List, [], ◌∷◌, ◌++◌, drop, Contains}, ByRecursion.All-append}
use Rattle.std.specs.{Prelude.{◌&&◌, Option, Some, None, map, filter}, List.AllByRecursion}
use Rattle.ason_base.specs.{Lsps.same_lsp, Network.Network, declared.ids.Fibre.Fibre, declared.ids.Lsp.Lsp, declared.commands.Group.Group, declared.messages.Msg.Msg, declared.steps.Step.Step, declared.tables.CallRec.CallRec, declared.tables.Leg.Leg, declared.tables.Out.Out}
use Rattle.ason_base.proofs.Members.{all-filter}
use Rattle.mesh_rules.specs.{declared.changes.CallChange.CallChange, declared.changes.LegChange.LegChange, Calls.{calls_changed, with_call, without_call}, Changes.{Answer, changed, changes_calls, down_after, followed_by, later, nothing, puts, removes, sends}, Legs.{legs_changed, with_leg, without_leg}, Machine.{Mesh, commit, sent_to, without_first, without_item}, State.NodeState, Turns.has_any}
use Rattle.mesh_rules.specs.declared.changes.CallChange.TheVariants as call
use Rattle.mesh_rules.specs.declared.changes.LegChange.TheVariants as leg
use Rattle.mesh_nodes.proofs.{CallList.all-with_call, Cases.if_cases, LegList.all-with_leg}
use Rattle.mesh_laws.proofs.{alone.Facts.LspRoutes, alone.Groups.{CallConcernsGroups, FibreConcernsGroups, ItemConcernsGroups, LegConcernsGroups, MsgConcernsGroups, any_on_route}}

-- Lists

pub all-drop : {X : Type 0} (P : X → Type 0) (xs : List X) → AllByRecursion P xs → AllByRecursion P (drop 1 xs)
all-drop P [] all = tt
all-drop P (x ∷ xs) all = all.1

-- of all that is sent, what goes to this node
pub all-sent : (P : Msg → Type 0) (d : ℕ) (outs : List Out) → AllByRecursion (λ x. P x.msg) outs →
    AllByRecursion P (sent_to d outs)
all-sent P d [] all = tt
all-sent P d (x ∷ outs) all =
    elim (nat_eq x.to.0 d) as (λ b. AllByRecursion P (map (λ y. y.msg)
    (cond b (x ∷ filter (λ y. nat_eq y.to.0 d) outs) (filter (λ y. nat_eq y.to.0 d) outs)))) [
      | true ↦ (all.0, all-sent P d outs all.1)
      | false ↦ all-sent P d outs all.1
    ]

-- A state

-- one of the groups is a risk of the LSP's route
abbrev pub IsExposed : Network → List Group → LspRoutes → Option Lsp → Type 0
IsExposed t gs o None = ⊥
IsExposed t gs o (Some l) = (route : List Step) × (o l ≡ Some route) × (any_on_route t gs route ≡ true)

-- besides, where a fibre of one of its LSPs is reported down, one of the groups is a risk of that one's route
pub record CallHolds (t : Network) (gs : List Group) (o : LspRoutes) (c : CallRec) : Type 0 where
  pub concerns : CallConcernsGroups t gs c
  pub work : has_any c.work_reports ≡ true → IsExposed t gs o c.work
  pub back : has_any c.back_reports ≡ true → IsExposed t gs o c.back

pub record NodeHolds (t : Network) (gs : List Group) (o : LspRoutes) (s : NodeState) : Type 0 where
  pub legs : AllByRecursion (LegConcernsGroups gs) s.legs
  pub calls : AllByRecursion (CallHolds t gs o) s.calls
  pub down : AllByRecursion (FibreConcernsGroups t gs) s.down

pub record MeshHolds (t : Network) (gs : List Group) (o : LspRoutes) (s : Mesh) : Type 0 where
  pub nodes : (n : ℕ) → NodeHolds t gs o (s.nodes n)
  pub desks : (n : ℕ) → AllByRecursion (ItemConcernsGroups t gs) (s.desks n)
  pub mail : (u d : ℕ) → AllByRecursion (MsgConcernsGroups t gs) (s.mail u d)
  pub failed : AllByRecursion (Contains gs) s.failed

-- An answer

abbrev pub LegFine : List Group → LegChange → Type 0
LegFine gs (leg.Goes l) = Unit {0}
LegFine gs (leg.Put b) = LegConcernsGroups gs b

abbrev pub CallFine : Network → List Group → LspRoutes → CallChange → Type 0
CallFine t gs o (call.Goes n) = Unit {0}
CallFine t gs o (call.Put c) = CallHolds t gs o c

abbrev pub OutFine : Network → List Group → Out → Type 0
OutFine t gs out = MsgConcernsGroups t gs out.msg

abbrev pub DownFine : Network → List Group → Option (List Fibre) → Type 0
DownFine t gs None = Unit {0}
DownFine t gs (Some fibres) = AllByRecursion (FibreConcernsGroups t gs) fibres

-- all that it puts in place and sends concerns one of the groups
pub record Fine (t : Network) (gs : List Group) (o : LspRoutes) (a : Answer) : Type 0 where
  pub legs : AllByRecursion (LegFine gs) a.legs
  pub calls : AllByRecursion (CallFine t gs o) a.calls
  pub down : DownFine t gs a.down
  pub sent : AllByRecursion (OutFine t gs) a.sent

module _ (t : Network) (gs : List Group) (o : LspRoutes) where
  pub fine-nothing : Fine t gs o nothing
  fine-nothing = record { legs = tt; calls = tt; down = tt; sent = tt }

  pub fine-sends : (outs : List Out) → AllByRecursion (OutFine t gs) outs → Fine t gs o (sends outs)
  fine-sends outs sent = record { legs = tt; calls = tt; down = tt; sent = sent }

  pub fine-puts : (b : Leg) (outs : List Out) → LegConcernsGroups gs b → AllByRecursion (OutFine t gs) outs →
      Fine t gs o (puts b outs)
  fine-puts b outs concerns sent = record { legs = (concerns, tt); calls = tt; down = tt; sent = sent }

  pub fine-removes : (l : Lsp) (outs : List Out) → AllByRecursion (OutFine t gs) outs → Fine t gs o (removes l outs)
  fine-removes l outs sent = record { legs = (tt, tt); calls = tt; down = tt; sent = sent }

  pub fine-call : (c : CallRec) → CallHolds t gs o c → Fine t gs o (changes_calls (call.Put c ∷ []))
  fine-call c holds = record { legs = tt; calls = (holds, tt); down = tt; sent = tt }

  pub fine-then : (a b : Answer) → Fine t gs o a → Fine t gs o b → Fine t gs o (followed_by a b)
  fine-then a b first second = record {
    legs = All-append (LegFine gs) a.legs b.legs first.legs second.legs;
    calls = All-append (CallFine t gs o) a.calls b.calls first.calls second.calls;
    down = down-later a.down b.down first.down second.down;
    sent = All-append (OutFine t gs) a.sent b.sent first.sent second.sent;
  }
    where
      down-later : (x y : Option (List Fibre)) → DownFine t gs x → DownFine t gs y → DownFine t gs (later x y)
      down-later x None h k = h
      down-later x (Some fibres) h k = k

  -- What it leaves

  legs-after : (cs : List LegChange) (legs : List Leg) → AllByRecursion (LegFine gs) cs →
      AllByRecursion (LegConcernsGroups gs) legs → AllByRecursion (LegConcernsGroups gs) (legs_changed cs legs)
  legs-after [] legs fine all = all
  legs-after (leg.Goes l ∷ cs) legs fine all =
      legs-after cs (without_leg l legs) fine.1
      (all-filter (LegConcernsGroups gs) (λ b. not (same_lsp b.lsp l)) legs all)
  legs-after (leg.Put b ∷ cs) legs fine all =
      legs-after cs (with_leg b legs) fine.1 (all-with_leg (LegConcernsGroups gs) b legs fine.0 all)

  calls-after : (cs : List CallChange) (calls : List CallRec) → AllByRecursion (CallFine t gs o) cs →
      AllByRecursion (CallHolds t gs o) calls → AllByRecursion (CallHolds t gs o) (calls_changed cs calls)
  calls-after [] calls fine all = all
  calls-after (call.Goes n ∷ cs) calls fine all =
      calls-after cs (without_call n calls) fine.1
      (all-filter (CallHolds t gs o) (λ c. not (nat_eq c.call.0 n.0)) calls all)
  calls-after (call.Put c ∷ cs) calls fine all =
      calls-after cs (with_call c calls) fine.1 (all-with_call (CallHolds t gs o) c calls fine.0 all)

  down-after : (x : Option (List Fibre)) (fibres : List Fibre) → DownFine t gs x →
      AllByRecursion (FibreConcernsGroups t gs) fibres → AllByRecursion (FibreConcernsGroups t gs) (down_after x fibres)
  down-after None fibres fine all = all
  down-after (Some fs) fibres fine all = fine

  node-after : (s : NodeState) (a : Answer) → Fine t gs o a → NodeHolds t gs o s → NodeHolds t gs o (changed s a)
  node-after s a fine old = record {
    legs = legs-after a.legs s.legs fine.legs old.legs;
    calls = calls-after a.calls s.calls fine.calls old.calls;
    down = down-after a.down s.down fine.down old.down;
  }

  pub commit-holds : (s : Mesh) (n : ℕ) (a : Answer) → Fine t gs o a → MeshHolds t gs o s →
      MeshHolds t gs o (commit s n a)
  commit-holds s n a fine old = record {
    nodes = λ m. if_cases (NodeHolds t gs o) (nat_eq m n) (changed (s.nodes m) a) (s.nodes m)
        (λ e. node-after (s.nodes m) a fine (old.nodes m)) (λ e. old.nodes m);
    desks = old.desks;
    mail = λ u d. if_cases (AllByRecursion (MsgConcernsGroups t gs)) (nat_eq u n) (s.mail u d ++ sent_to d a.sent)
        (s.mail u d)
        (λ e. All-append (MsgConcernsGroups t gs) (s.mail u d) _ (old.mail u d)
        (all-sent (MsgConcernsGroups t gs) d a.sent fine.sent)) (λ e. old.mail u d);
    failed = old.failed;
  }

  pub taken-holds : (s : Mesh) (u d : ℕ) → MeshHolds t gs o s → MeshHolds t gs o (without_first s u d)
  taken-holds s u d old = record {
    nodes = old.nodes;
    desks = old.desks;
    mail = λ a b. if_cases (AllByRecursion (MsgConcernsGroups t gs)) (nat_eq a u && nat_eq b d) (drop 1 (s.mail a b))
        (s.mail a b) (λ e. all-drop (MsgConcernsGroups t gs) (s.mail a b) (old.mail a b)) (λ e. old.mail a b);
    failed = old.failed;
  }

  pub handled-holds : (s : Mesh) (n : ℕ) → MeshHolds t gs o s → MeshHolds t gs o (without_item s n)
  handled-holds s n old = record {
    nodes = old.nodes;
    desks = λ m. if_cases (AllByRecursion (ItemConcernsGroups t gs)) (nat_eq m n) (drop 1 (s.desks m)) (s.desks m)
        (λ e. all-drop (ItemConcernsGroups t gs) (s.desks m) (old.desks m)) (λ e. old.desks m);
    mail = old.mail;
    failed = old.failed;
  }
