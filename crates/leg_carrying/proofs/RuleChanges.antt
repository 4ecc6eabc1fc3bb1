-- The legs that a rule changes may be changed so: just the last takes a label more, and one that is usable; and one is
-- marked just where it was or isn't contended.
use Rattle.std.proofs.Common.{◌≡◌, ◌∙◌, Bool, true, false, cond, not, nat_eq, List, [], ◌∷◌, drop, inl, refl, sym, ap, subst}
use Rattle.std.specs.{Prelude.{◌&&◌, Option, Some, None, IfSome}, List.AllByRecursion}
use Rattle.ason_base.specs.{Lsps.{has_fibre, same_lsp}, declared.commands.DeskItem.DeskItem, declared.commands.DeskItem.TheVariants.{Order, Alarm, Clear}, declared.commands.Command.TheVariants.{Setup, Release, Protect, Retry, Revert, Fail, Repair}, declared.ids.CallNo.CallNo, declared.ids.Fibre.Fibre, declared.ids.Lsp.Lsp, declared.ids.NodeId.NodeId, declared.messages.Msg.Msg, declared.messages.Msg.TheVariants.{Path, Resv, PathTear, PathErr, Notify}, declared.messages.PathRole.TheVariants.Work, declared.network.LinkSpec.LinkSpec, declared.steps.Step.Step, declared.tables.CallRec.CallRec, declared.tables.Leg.Leg}
use Rattle.ason_base.proofs.Finding.{found-of_all}
use Rattle.mesh_rules.specs.declared.changes.CallChange.TheVariants as call
use Rattle.mesh_rules.specs.{declared.neighbours.Neighbour.Neighbour, Alarms.enters, Calls.{find_call, is_bare}, Changes.{changes_calls, followed_by, nothing}, FirstLegs.{NewLsp, first_leg, first_link, is_full, lacks_first_back}, KnownRows.known_rows, LeastRoutes.{Trip, least_trip}, Legs.{closed, find_leg, following, is_closing, is_node, leg_of, previous, with_leg}, LocalNodes.{LocalNode, own_link}, Messages.{arrival, on_message}, Notifies.{Notice, notice_passed, notice_told, notify_with, on_notify}, Orders.on_item, Pairs.{beside_lsp, route_from}, Protects.{on_protect, protect_with, protects}, Releases.{release_with, releases, tears}, Reports.{fibre_into, report_here, reported}, Retries.on_retry, Reverts.on_revert, Setups.{SetupRequest, begins, is_order_here, is_spent, new_call, next_lsp, on_setup, over_first, over_found, setup_with, working_lsp}, State.NodeState, Waits.on_tick}
use Rattle.mesh_nodes.specs.{FitNodes.{CallFits, LegFits}, LocalNodes.LocalNodeFits}
use Rattle.mesh_nodes.proofs.{Cases.if_cases, LegList.{find-with_leg, found-lsp, same_lsp-eq}}
use Rattle.leg_table.specs.LegClaims.{MayMark, TakesNoMore, is_own_fibre}
use Rattle.leg_carrying.proofs.{CallLegs.{FineLegs, calm-fine, first-may, number-absent, pair-may}, CallOrders.{reported-calm, retry-calm, revert-calm, tick-calm}, MayMark.{again-marks, closed-marks, dark}, MayPut.{closed-less, found-itself, itself, stays-less}, MessageChanges.{err-may, path-may, resv-may, tear-may}}

-- Notify

notice-may : (p : LocalNode) (s : NodeState) (u : NodeId) (m : Notice) → LocalNodeFits p →
    AllByRecursion (LegFits p s.lsp) s.legs → FineLegs p s.legs (on_notify p s u m)
notice-may p s u m links each = go (find_leg m.lsp s.legs)
  where
    passed : (g : Leg) (down : Bool) (o : Option Neighbour) → FineLegs p s.legs (notice_passed p s m g down o)
    passed g down None =
        calm-fine p s.legs s.legs (report_here p s g m.at m.link down)
        (reported-calm p s links each g down (fibre_into (route_from p g) g.egress m.at m.link))
    passed g down (Some h) = (tt, tt)

    told : (g : Leg) (o : Option Bool) → FineLegs p s.legs (notice_told p s m g o)
    told g None = (tt, tt)
    told g (Some down) = passed g down (previous g)

    go : (o : Option Leg) → FineLegs p s.legs (notify_with p s u m o)
    go None = (tt, tt)
    go (Some g) =
        if_cases (FineLegs p s.legs) (not (is_closing g.phase) && is_node (following g) u) _ _
        (λ e. told g (reported m.code)) (λ e. (tt, tt))

-- Setup

pub setup-may : (p : LocalNode) (s : NodeState) (w : SetupRequest) → LocalNodeFits p →
    AllByRecursion (LegFits p s.lsp) s.legs → FineLegs p s.legs (on_setup p s w)
setup-may p s w links each = go (find_call w.call s.calls)
  where
    begun : (out : LinkSpec) (route : List Step) → first_link p route ≡ Some out →
        FineLegs p s.legs (begins p s w out (drop 1 route))
    begun out route leads =
        let n : NewLsp = working_lsp p s w out (drop 1 route) in
        let absent = number-absent p s (next_lsp p s) each refl refl in (
          (first-may p s s.legs n w.both route links absent leads refl, tt),
          (dark (is_own_fibre p) s.legs (first_leg p (known_rows p s) n) refl, tt),
        )

    over : (route : List Step) (o : Option LinkSpec) → first_link p route ≡ o →
        FineLegs p s.legs (over_first p s w route o)
    over route None leads = (tt, tt)
    over route (Some out) leads =
        if_cases (FineLegs p s.legs) (is_spent s) _ _ (λ e. (tt, tt))
        (λ e. if_cases (FineLegs p s.legs) (is_full s) _ _ (λ e. (tt, tt))
        (λ e. if_cases (FineLegs p s.legs) (lacks_first_back p s w.both (Work w.protected) out) _ _ (λ e. (tt, tt))
        (λ e. begun out route leads)))

    found : (o : Option Trip) → FineLegs p s.legs (over_found p s w o)
    found None = (tt, tt)
    found (Some r) = over r.steps (first_link p r.steps) refl

    new : (via : Option (List Step)) → FineLegs p s.legs (new_call p s w via)
    new None = found (least_trip (known_rows p s) p.id w.egress)
    new (Some route) = over route (first_link p route) refl

    go : (o : Option CallRec) → FineLegs p s.legs (setup_with p s w o)
    go None = if_cases (FineLegs p s.legs) (is_order_here p w) _ _ (λ e. new w.via) (λ e. (tt, tt))
    go (Some c) = (tt, tt)

-- Protect

pub protect-may : (p : LocalNode) (s : NodeState) (n : CallNo) (from : NodeId) → LocalNodeFits p →
    AllByRecursion (LegFits p s.lsp) s.legs → AllByRecursion (CallFits p) s.calls →
    FineLegs p s.legs (on_protect p s n from)
protect-may p s n from links each calls = go (find_call n s.calls) refl
  where
    paired : (c : CallRec) (o : Option Lsp) → IfSome o (λ l. l.ingress.0 ≡ p.id.0) →
        FineLegs p s.legs (protects p s c (leg_of o s.legs))
    paired c None begins = (tt, tt)
    paired c (Some l) begins = with_work (find_leg l s.legs) refl
      where
        with_work : (o : Option Leg) → find_leg l s.legs ≡ o → FineLegs p s.legs (protects p s c o)
        with_work None found = (tt, tt)
        with_work (Some w) found =
            pair-may p s s.legs c w links (number-absent p s (beside_lsp w.lsp s.lsp) each
            (ap (λ (k : Lsp). k.ingress.0) (found-lsp l s.legs w found) ∙ begins) refl)

    go : (o : Option CallRec) → find_call n s.calls ≡ o → FineLegs p s.legs (protect_with p s from o)
    go None found = (tt, tt)
    go (Some c) found =
        if_cases (FineLegs p s.legs) (nat_eq from.0 p.id.0 && is_bare c.state) _ _
        (λ e. paired c c.work (found-of_all (CallFits p) (λ b. nat_eq b.call.0 n.0) s.calls c found calls).work)
        (λ e. (tt, tt))

-- Release

-- the leg of an LSP that a call names
named-itself : (o : Option Lsp) (legs : List Leg) (g : Leg) → leg_of o legs ≡ Some g → find_leg g.lsp legs ≡ Some g
named-itself None legs g found = absurd (cc found)
named-itself (Some l) legs g found = found-itself l legs g found

-- two legs are torn, which may be one
module _ (own : Fibre → Bool) (legs : List Leg) (g h : Leg) (first : find_leg g.lsp legs ≡ Some g)
    (second : find_leg h.lsp legs ≡ Some h) where
  abbrev after : List Leg
  after = with_leg (closed g) legs

  second-torn : TakesNoMore after (closed h) × MayMark own after (closed h)
  second-torn = go (same_lsp g.lsp h.lsp) refl
    where
      at : find_leg h.lsp after ≡ cond (same_lsp g.lsp h.lsp) (Some (closed g)) (find_leg h.lsp legs)
      at = find-with_leg (closed g) legs h.lsp

      go : (b : Bool) → same_lsp g.lsp h.lsp ≡ b → TakesNoMore after (closed h) × MayMark own after (closed h)
      go true e =
          let there : find_leg g.lsp legs ≡ Some h =
          subst (λ l. find_leg l legs ≡ Some h) (sym (same_lsp-eq g.lsp h.lsp e)) second in
          let is : g ≡ h = cc (first, there) in
          let now : find_leg h.lsp after ≡ Some (closed h) = at ∙ rw (e, is) refl in
          (stays-less after (closed h) (itself after (closed h) now), again-marks own after (closed h) now)
      go false e =
          let now : find_leg h.lsp after ≡ Some h = at ∙ rw e second in
          (closed-less after h (itself after h now), closed-marks own after h now)

pub release-may : (p : LocalNode) (s : NodeState) (from : NodeId) (o : Option CallRec) →
    FineLegs p s.legs (release_with p s from o)
release-may p s from None = (tt, tt)
release-may p s from (Some c) =
    if_cases (FineLegs p s.legs) (nat_eq from.0 p.id.0) (releases s c) nothing
    (λ e. both (leg_of c.work s.legs) (leg_of c.back s.legs) refl refl) (λ e. (tt, tt))
  where
    less : (o : Option Lsp) (g : Leg) → leg_of o s.legs ≡ Some g → TakesNoMore s.legs (closed g)
    less o g found = closed-less s.legs g (itself s.legs g (named-itself o s.legs g found))

    marks : (o : Option Lsp) (g : Leg) → leg_of o s.legs ≡ Some g → MayMark (is_own_fibre p) s.legs (closed g)
    marks o g found = closed-marks (is_own_fibre p) s.legs g (named-itself o s.legs g found)

    both : (a b : Option Leg) → leg_of c.work s.legs ≡ a → leg_of c.back s.legs ≡ b →
        FineLegs p s.legs (followed_by (tears a) (followed_by (tears b) (changes_calls (call.Goes c.call ∷ []))))
    both None None e f = (tt, tt)
    both None (Some h) e f = ((inl (less c.back h f), tt), (marks c.back h f, tt))
    both (Some g) None e f = ((inl (less c.work g e), tt), (marks c.work g e, tt))
    both (Some g) (Some h) e f =
        let torn = second-torn (is_own_fibre p) s.legs g h (named-itself c.work s.legs g e)
        (named-itself c.back s.legs h f) in
        ((less c.work g e, (inl torn.0, tt)), (marks c.work g e, (torn.1, tt)))

-- Every message, item and tick

pub message-may : (p : LocalNode) (s : NodeState) (u : NodeId) (m : Msg) → LocalNodeFits p →
    AllByRecursion (LegFits p s.lsp) s.legs → FineLegs p s.legs (on_message p s u m)
message-may p s u (Path l e k route set up r) links each =
    path-may p s (record { arrival = arrival l e u k; route = route; set = set; upstream = up; role = r }) links each
message-may p s u (Resv l e k x) links each = resv-may p s (arrival l e u k) x links each
message-may p s u (PathTear l e k) links each = tear-may p s (arrival l e u k)
message-may p s u (PathErr l e at gone code) links each =
    err-may p s u (record { lsp = l; msg = PathErr l e at gone code; removed = gone; code = code }) links each
message-may p s u (Notify l e at k code) links each =
    notice-may p s u (record { lsp = l; msg = Notify l e at k code; at = at; link = k; code = code }) links each

pub item-may : (p : LocalNode) (s : NodeState) (i : DeskItem) → LocalNodeFits p →
    AllByRecursion (LegFits p s.lsp) s.legs → AllByRecursion (CallFits p) s.calls → FineLegs p s.legs (on_item p s i)
item-may p s (Order (Setup n from to protected both via backup)) links each calls =
    setup-may p s (record {
      call =
          n;
      from = from;
      egress = to;
      protected = protected;
      both = both;
      via = via;
      backup = backup;
    }) links each
item-may p s (Order (Release n from)) links each calls = release-may p s from (find_call n s.calls)
item-may p s (Order (Protect n from)) links each calls = protect-may p s n from links each calls
item-may p s (Order (Retry n from)) links each calls =
    calm-fine p s.legs s.legs (on_retry p s n from) (retry-calm p s links each from (find_call n s.calls))
item-may p s (Order (Revert n from)) links each calls =
    calm-fine p s.legs s.legs (on_revert p s n from) (revert-calm p s from (find_call n s.calls))
item-may p s (Order (Fail g)) links each calls = (tt, tt)
item-may p s (Order (Repair g)) links each calls = (tt, tt)
item-may p s (Alarm f) links each calls =
    if_cases (FineLegs p s.legs) (enters p f (own_link p f.link) && not (has_fibre s.down f)) _ _ (λ e. (tt, tt))
    (λ e. (tt, tt))
item-may p s (Clear f) links each calls =
    if_cases (FineLegs p s.legs) (enters p f (own_link p f.link) && has_fibre s.down f) _ _ (λ e. (tt, tt))
    (λ e. (tt, tt))

pub tick-may : (p : LocalNode) (s : NodeState) → FineLegs p s.legs (on_tick p s)
tick-may p s = calm-fine p s.legs s.legs (on_tick p s) (tick-calm p s)
