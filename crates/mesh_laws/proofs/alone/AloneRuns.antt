-- From a calm state on, while some groups alone fail and of the backups on one label at most one records one of them,
-- all concerns these groups and no activation is refused.
use Rattle.std.proofs.Common.{◌≡◌, ℕ, true, false, map, List, [], ◌∷◌, ◌++◌, refl, sym, ap, subst}
use Rattle.std.specs.{Prelude.{Option, Some, None}, List.AllByRecursion}
use Rattle.ason_base.specs.{Network.{Network, find_link, is_distinct}, declared.ids.Lsp.Lsp, declared.ids.NodeId.NodeId, declared.steps.Step.Step, declared.commands.DeskItem.DeskItem, declared.commands.Group.Group, declared.messages.Msg.Msg, declared.messages.Msg.TheVariants.{Path, Resv, PathTear, PathErr, Notify}, declared.tables.CallRec.CallRec, declared.tables.Out.Out}
use Rattle.ason_base.proofs.Members.{all-then}
use Rattle.mesh_rules.specs.{declared.events.MeshEvent.MeshEvent, declared.events.MeshEvent.TheVariants.{Take, Desk, Tick, Learn, Post}, Events.{IsRun, after, first_route, on_first, on_first_item, or_route, route_of, sent_at_ingress, step}, LocalNodes.local_node, Machine.{Mesh, start, without_first, without_item}}
use Rattle.mesh_laws.specs.AloneLaw.{Calm, NoneFindsBusy, NoneRefused, finds_busy, is_refusal, sent_in}
use Rattle.mesh_laws.proofs.{alone.Calm.calm-holds, alone.Groups.{FailsOnlyGroups, ItemConcernsGroups, MsgConcernsGroups}, alone.Facts.{MeshKnows, LspRoutes}, alone.Failures.posted-holds, alone.Fine.{CallHolds, Fine, IsExposed, MeshHolds, OutFine, commit-holds, fine-nothing, handled-holds, taken-holds}, alone.Items.{item-fine, link-fine, tick-fine}, alone.Legs.{BackupsApart, MsgApart}, alone.Messages.message-fine}

-- of the backups that use one label, at any node, at most one records one of the groups; and so it is with the label
-- that the next message of a list gives
pub record AllApart (gs : List Group) (s : Mesh) : Type 0 where
  pub legs : (n : ℕ) → BackupsApart gs (s.nodes n).legs
  pub firsts : (u d : NodeId) (m : Msg) (ms : List Msg) → s.mail u.0 d.0 ≡ m ∷ ms → MsgApart gs (s.nodes d.0).legs u m

-- One step

module _ (t : Network) (gs : List Group) (distinct : is_distinct (map (λ l. l.id.0) t.links) ≡ true) (o : LspRoutes)
    (s : Mesh) (knows : MeshKnows t o s) (old : MeshHolds t gs o s) (apart : AllApart gs s) where
  first-fine : (d u : NodeId) (ms : List Msg) → s.mail u.0 d.0 ≡ ms →
      Fine t gs o (on_first (local_node t d) (s.nodes d.0) u ms)
  first-fine d u [] is = fine-nothing t gs o
  first-fine d u (m ∷ ms) is =
      let all : AllByRecursion (MsgConcernsGroups t gs) (m ∷ ms) =
      subst (AllByRecursion (MsgConcernsGroups t gs)) is (old.mail u.0 d.0) in
      message-fine t gs o (local_node t d) (s.nodes d.0) (knows.nodes d) (old.nodes d.0) (apart.legs d.0) u m all.0
      (knows.firsts u d m ms is) (apart.firsts u d m ms is)

  first_item-fine : (n : NodeId) (items : List DeskItem) → s.desks n.0 ≡ items →
      Fine t gs o (on_first_item (local_node t n) (s.nodes n.0) items)
  first_item-fine n [] is = fine-nothing t gs o
  first_item-fine n (i ∷ items) is =
      let all : AllByRecursion (ItemConcernsGroups t gs) (i ∷ items) =
      subst (AllByRecursion (ItemConcernsGroups t gs)) is (old.desks n.0) in
      item-fine t gs o (local_node t n) (s.nodes n.0) (knows.nodes n) (old.nodes n.0) (apart.legs n.0) i all.0

  step-holds : (e : MeshEvent) → FailsOnlyGroups gs e → MeshHolds t gs o (step t s e)
  step-holds (Take d u) only =
      commit-holds t gs o (without_first s u.0 d.0) d.0
      (on_first (local_node t d) (s.nodes d.0) u (s.mail u.0 d.0)) (first-fine d u (s.mail u.0 d.0) refl)
      (taken-holds t gs o s u.0 d.0 old)
  step-holds (Desk n) only =
      commit-holds t gs o (without_item s n.0) n.0 (on_first_item (local_node t n) (s.nodes n.0) (s.desks n.0))
      (first_item-fine n (s.desks n.0) refl) (handled-holds t gs o s n.0 old)
  step-holds (Tick n) only =
      commit-holds t gs o s n.0 _ (tick-fine t gs o (local_node t n) (s.nodes n.0) (old.nodes n.0)) old
  step-holds (Learn n k) only =
      commit-holds t gs o s n.0 _ (link-fine t gs o (local_node t n) (s.nodes n.0) (find_link t k)) old
  step-holds (Post c) only = posted-holds t gs distinct o s c only old

  -- no refusal is sent

  not_refusal : (m : Msg) → MsgConcernsGroups t gs m → is_refusal m ≡ false
  not_refusal (Path l e k route set up r) concerns = refl
  not_refusal (Resv l e k x) concerns = refl
  not_refusal (PathTear l e k) concerns = refl
  not_refusal (PathErr l e at true code) concerns = refl
  not_refusal (PathErr l e at false code) concerns = absurd concerns
  not_refusal (Notify l e at k code) concerns = refl

  none_refused : (outs : List Out) → AllByRecursion (OutFine t gs) outs →
      AllByRecursion (λ x. is_refusal x.msg ≡ false) outs
  none_refused outs all = all-then (OutFine t gs) (λ x. is_refusal x.msg ≡ false) outs (λ x. not_refusal x.msg) all

  step-admits : (e : MeshEvent) → AllByRecursion (λ x. is_refusal x.msg ≡ false) (sent_in t s e)
  step-admits (Take d u) = none_refused _ (first-fine d u (s.mail u.0 d.0) refl).sent
  step-admits (Desk n) = none_refused _ (first_item-fine n (s.desks n.0) refl).sent
  step-admits (Tick n) =
      none_refused _ (tick-fine t gs o (local_node t n) (s.nodes n.0) (old.nodes n.0)).sent
  step-admits (Learn n k) =
      none_refused _ (link-fine t gs o (local_node t n) (s.nodes n.0) (find_link t k)).sent
  step-admits (Post c) = tt

-- and no call is left that couldn't turn
none-busy : (t : Network) (gs : List Group) (o : LspRoutes) (s : Mesh) → MeshHolds t gs o s → NoneFindsBusy s
none-busy t gs o s holds n =
    all-then (CallHolds t gs o) (λ c. finds_busy c ≡ false) (s.nodes n).calls (λ c h. h.concerns.admitted)
    (holds.nodes n).calls

-- Routes that were sent first stay

abbrev Grow : LspRoutes → LspRoutes → Type 0
Grow o o' = (l : Lsp) (route : List Step) → o l ≡ Some route → o' l ≡ Some route

module _ (t : Network) (gs : List Group) (o o' : LspRoutes) (grow : Grow o o') where
  exposed-grown : (l : Option Lsp) → IsExposed t gs o l → IsExposed t gs o' l
  exposed-grown None exposed = exposed
  exposed-grown (Some l) (route, sent, on) = (route, grow l route sent, on)

  call-grown : (c : CallRec) → CallHolds t gs o c → CallHolds t gs o' c
  call-grown c holds = record {
    concerns = holds.concerns;
    work = λ some. exposed-grown c.work (holds.work some);
    back = λ some. exposed-grown c.back (holds.back some);
  }

  mesh-grown : (s : Mesh) → MeshHolds t gs o s → MeshHolds t gs o' s
  mesh-grown s old = record {
    nodes = λ n. record {
      legs = (old.nodes n).legs;
      calls = all-then (CallHolds t gs o) (CallHolds t gs o') (s.nodes n).calls call-grown (old.nodes n).calls;
      down = (old.nodes n).down;
    };
    desks = old.desks;
    mail = old.mail;
    failed = old.failed;
  }

-- Runs

-- first these events, and then those
pub after-append : (t : Network) (s : Mesh) (a b : List MeshEvent) → after t s (a ++ b) ≡ after t (after t s a) b
after-append t s [] b = refl
after-append t s (e ∷ a) b = after-append t (step t s e) a b

pub or_route-kept : (a b : Option (List Step)) (route : List Step) → a ≡ Some route → or_route a b ≡ Some route
or_route-kept None b route e = absurd (cc e)
or_route-kept (Some r) b route e = e

or_route-later : (a b c : Option (List Step)) (route : List Step) →
    ((r : List Step) → b ≡ Some r → c ≡ Some r) → or_route a b ≡ Some route → or_route a c ≡ Some route
or_route-later None b c route later e = later route e
or_route-later (Some r) b c route later e = e

routes-grow : (t : Network) (s : Mesh) (a b : List MeshEvent) → Grow (route_of t s a) (route_of t s (a ++ b))
routes-grow t s [] b l route e = absurd (cc e)
routes-grow t s (x ∷ a) b l route e =
    or_route-later (first_route l (sent_at_ingress t s x l)) (route_of t (step t s x) a l)
    (route_of t (step t s x) (a ++ b) l) route (routes-grow t (step t s x) a b l) e

-- the first part of a run is one
pub run-first : (t : Network) (s : Mesh) (a b : List MeshEvent) → IsRun t s (a ++ b) → IsRun t s a
run-first t s [] b run = tt
run-first t s (e ∷ a) b run = (run.0, run-first t (step t s e) a b run.1)

-- and so is what follows
pub run-later : (t : Network) (s : Mesh) (a b : List MeshEvent) → IsRun t s (a ++ b) → IsRun t (after t s a) b
run-later t s [] b run = run
run-later t s (e ∷ a) b run = run-later t (step t s e) a b run.1

-- an event more at the end of the first part
pub append-one : (a : List MeshEvent) (e : MeshEvent) (b : List MeshEvent) → (a ++ e ∷ []) ++ b ≡ a ++ e ∷ b
append-one [] e b = refl
append-one (x ∷ a) e b = ap (λ xs. x ∷ xs) (append-one a e b)

append-none : (a : List MeshEvent) → a ++ [] ≡ a
append-none [] = refl
append-none (x ∷ a) = ap (λ xs. x ∷ xs) (append-none a)

-- what is told of each state of each run
abbrev pub EachKnows : Network → Type 0
EachKnows t = (events : List MeshEvent) → IsRun t start events →
    MeshKnows t (route_of t start events) (after t start events)

-- at each state from here on backups stay apart
abbrev pub StayApart : Network → List Group → Mesh → List MeshEvent → Type 0
StayApart t gs s [] = Unit {0}
StayApart t gs s (e ∷ es) = AllApart gs s × StayApart t gs (step t s e) es

-- from a state of the run on
pub record KeptSince (t : Network) (gs : List Group) (before since : List MeshEvent) : Type 0 where
  pub none_refused : NoneRefused t (after t start before) since
  pub holds : MeshHolds t gs (route_of t start (before ++ since)) (after t start (before ++ since))

module _ (t : Network) (gs : List Group) (distinct : is_distinct (map (λ l. l.id.0) t.links) ≡ true)
    (knows : EachKnows t) where
  goes-on : (before since : List MeshEvent) → IsRun t start (before ++ since) →
      AllByRecursion (FailsOnlyGroups gs) since →
      StayApart t gs (after t start before) since → MeshHolds t gs (route_of t start before) (after t start before) →
      KeptSince t gs before since
  goes-on before [] run only apart old = record {
    none_refused = tt;
    holds = subst (λ es. MeshHolds t gs (route_of t start es) (after t start es)) (sym (append-none before)) old;
  }
  goes-on before (e ∷ es) run only apart old =
      let s : Mesh = after t start before in
      let o : LspRoutes = route_of t start before in
      let told = knows before (run-first t start before (e ∷ es) run) in
      let next : after t start (before ++ e ∷ []) ≡ step t s e = after-append t start before (e ∷ []) in
      let same = append-one before e es in
      let later = goes-on (before ++ e ∷ []) es (subst (IsRun t start) (sym same) run) only.1
      (subst (λ x. StayApart t gs x es) (sym next) apart.1)
      (mesh-grown t gs o (route_of t start (before ++ e ∷ [])) (routes-grow t start before (e ∷ []))
      (after t start (before ++ e ∷ []))
      (subst (MeshHolds t gs o) (sym next) (step-holds t gs distinct o s told old apart.0 e only.0)))
      in
      record {
        none_refused = (
          step-admits t gs distinct o s told old apart.0 e,
          none-busy t gs o (step t s e) (step-holds t gs distinct o s told old apart.0 e only.0),
          subst (λ x. NoneRefused t x es) next later.none_refused,
        );
        holds = subst (λ xs. MeshHolds t gs (route_of t start xs) (after t start xs)) same later.holds;
      }

  -- from a calm state on all concerns these groups, and nothing is refused
  pub from-calm : (before since : List MeshEvent) → IsRun t start (before ++ since) →
      AllByRecursion (FailsOnlyGroups gs) since → StayApart t gs (after t start before) since →
      Calm (after t start before) → KeptSince t gs before since
  from-calm before since run only apart calm =
      goes-on before since run only apart
      (calm-holds t gs (route_of t start before) (after t start before)
      (knows before (run-first t start before since run)) calm)
