-- In a calm state all concerns any groups: nothing of a failure is there.
use Rattle.std.proofs.Common.{◌≡◌, true, false, List, [], ◌∷◌, refl, ap}
use Rattle.std.specs.{Prelude.◌&&◌, List.AllByRecursion}
use Rattle.ason_base.specs.{Network.Network, declared.calls.CallState.CallState, declared.calls.CallState.TheVariants.Stuck, declared.calls.Phase.Phase, declared.calls.Phase.TheVariants.{Armed, Live, Falling}, declared.commands.DeskItem.DeskItem, declared.commands.DeskItem.TheVariants.{Order, Alarm, Clear}, declared.commands.Group.Group, declared.messages.Msg.Msg, declared.messages.Msg.TheVariants.{Path, Resv, PathTear, PathErr, Notify}, declared.messages.PathRole.TheVariants.{Work, Back}, declared.tables.CallRec.CallRec, declared.tables.Leg.Leg}
use Rattle.ason_base.proofs.Members.{all-then}
use Rattle.mesh_rules.specs.{Calls.is_stuck, Legs.is_marking, Machine.Mesh, Turns.has_any}
use Rattle.mesh_laws.specs.AloneLaw.{CallIsCalm, Calm, LegIsCalm, is_calm_item, is_calm_msg, is_idle, is_of_busy}
use Rattle.mesh_laws.proofs.{alone.Groups.{ItemConcernsGroups, LegConcernsGroups, MsgConcernsGroups}, alone.Facts.{CallKnows, MeshKnows, LspRoutes}, alone.Fine.{CallHolds, MeshHolds}, alone.Legs.{idle-concerns, marked-back}}

module _ (t : Network) (gs : List Group) (o : LspRoutes) where
  calm-leg : (b : Leg) → LegIsCalm b → LegConcernsGroups gs b
  calm-leg b calm mark = idle-concerns gs b (go b.phase (calm (marked-back b mark))) mark
    where
      go : (f : Phase) → is_idle f ≡ true → is_marking f ≡ false
      go Armed e = absurd (cc e)
      go Live e = absurd (cc e)
      go Falling e = absurd (cc e)
      go _ e = refl

  calm-call : (legs : List Leg) (c : CallRec) → CallKnows t o legs c → CallIsCalm c → CallHolds t gs o c
  calm-call legs c knows calm =
      let works : has_any c.work_reports ≡ false = ap has_any calm.0 in
      let backs : has_any c.back_reports ≡ false = ap has_any calm.1 in
      record {
        concerns = record {
          work_reports = rw calm.0 tt;
          back_reports = rw calm.1 tt;
          free = λ e. (let some = knows.stuck e in absurd (cc (some, works)));
          admitted = admitted c.state (λ e. let some = knows.stuck e in cc (some, works));
        };
        work = λ some. absurd (cc (some, works));
        back = λ some. absurd (cc (some, backs));
      }
    where
      admitted : (state : CallState) → (state ≡ Stuck → ⊥) → (is_stuck state && is_of_busy c.cause) ≡ false
      admitted Stuck never = absurd (never refl)
      admitted _ never = refl

  calm-calls : (legs : List Leg) (calls : List CallRec) → AllByRecursion (CallKnows t o legs) calls →
      AllByRecursion CallIsCalm calls → AllByRecursion (CallHolds t gs o) calls
  calm-calls legs [] knows calm = tt
  calm-calls legs (c ∷ calls) knows calm =
      (calm-call legs c knows.0 calm.0, calm-calls legs calls knows.1 calm.1)

  calm-msg : (m : Msg) → is_calm_msg m ≡ true → MsgConcernsGroups t gs m
  calm-msg (Path l e k route set up (Work guard)) calm = tt
  calm-msg (Path l e k route set up (Back true work primary)) calm = absurd (cc calm)
  calm-msg (Path l e k route set up (Back false work primary)) calm = tt
  calm-msg (Resv l e k x) calm = tt
  calm-msg (PathTear l e k) calm = tt
  calm-msg (PathErr l e at true code) calm = tt
  calm-msg (PathErr l e at false code) calm = absurd (cc calm)
  calm-msg (Notify l e at k code) calm = absurd (cc calm)

  calm-item : (i : DeskItem) → is_calm_item i ≡ true → ItemConcernsGroups t gs i
  calm-item (Order c) calm = tt
  calm-item (Alarm f) calm = absurd (cc calm)
  calm-item (Clear f) calm = absurd (cc calm)

  pub calm-holds : (s : Mesh) → MeshKnows t o s → Calm s → MeshHolds t gs o s
  calm-holds s knows calm = record {
    nodes = λ n. record {
      legs = all-then LegIsCalm (LegConcernsGroups gs) (s.nodes n).legs calm-leg (calm.legs n);
      calls = calm-calls (s.nodes n).legs (s.nodes n).calls (knows.nodes (record { 0 = n })).calls (calm.reports n);
      down = rw (calm.down n) tt;
    };
    desks = λ n. all-then (λ i. is_calm_item i ≡ true) (ItemConcernsGroups t gs) (s.desks n) calm-item (calm.desks n);
    mail = λ u d. all-then (λ m. is_calm_msg m ≡ true) (MsgConcernsGroups t gs) (s.mail u d) calm-msg (calm.mail u d);
    failed = rw calm.failed tt;
  }
