-- A step that takes a message: where each LSP stands after it.
use Rattle.std.proofs.Common.{◌≡◌, ℕ, Bool, true, false, List, [], ◌∷◌, refl, sym, ap, ◌∙◌, subst}
use Rattle.std.specs.Prelude.{◌&&◌, not, Option, Some, None}
use Rattle.ason_base.specs.{Network.Network, Lsps.same_lsp, declared.ids.Fibre.Fibre, declared.ids.LinkId.LinkId, declared.ids.Lsp.Lsp, declared.ids.NodeId.NodeId, declared.codes.ErrCode.ErrCode, declared.calls.Phase.TheVariants.{Armed, Held, Live}, declared.tables.CallRec.CallRec, declared.tables.Leg.Leg, declared.tables.Out.Out, declared.messages.Msg.Msg, declared.messages.Msg.TheVariants.{Path, Resv, PathTear, PathErr, Notify}}
use Rattle.ason_base.proofs.Bools.{and-left}
use Rattle.mesh_rules.specs.{declared.neighbours.Neighbour.Neighbour, ActivationAnswers.is_confirmed, Changes.{Answer, nothing, puts}, Calls.call_with, CallSteps.{call_answered, call_contended, call_refused, call_turned}, Notifies.Notice, PathErrs.PathFailure, Pairs.route_from, Reports.{call_reported, fibre_into, report_here, reported, reported_on, with_report}, Resvs.is_expected, LocalNodes.{LocalNode, local_node}, State.NodeState, Legs.{connected, find_leg, following, is_armed, is_asked, is_closing, is_node, is_work, leg_of, previous, with_phase}, Messages.{arrival, on_message}, Machine.{Mesh, without_first}, Events.{has_first, on_first}}
use Rattle.lsp_laws.specs.HopLaw.{lsp_of, is_notice, leg_at}
use Rattle.mesh_nodes.specs.Routes.{AreRowsOf}
use Rattle.mesh_nodes.proofs.{Cases.if_cases, LegList.{found-lsp, same_lsp-refl}, Phases.armed-is}
use Rattle.lsp_laws.proofs.{hops.Views.leg-here, hops.Tables.leg_after, hops.InParts.{leg_of_resv, leg_part, call_part, at_ingress, call_of_err, call_of_failure, call_of_notice, call_of_resv, in-parts, notice_here}, hops.NoticeRule.notice_only, hops.Planned.{Routes, EachFollows}, hops.Stepped.{EachStepped, stepped_quiet, stepped_then}, hops.Paired.{CallsMayPair, MayPair, answered_stepped, armed_backup, refused_stepped, no_previous, whole-route}, hops.Turned.{BackFits, BackStands, contended_stepped, decide_stepped, turned_stepped}, hops.TakenSteps.{CallsBackHere, after_leg, reported_state, take_begins_none, take_follows, take_next}}

-- At a Resv that its leg expects at the ingress, the leg is connected.
pub resv-connects : (p : LocalNode) (s : NodeState) (u : NodeId) (m : Msg) (l : Lsp) (e : NodeId) (k : LinkId) (x : ℕ)
    (g : Leg) → m ≡ Resv l e k x → find_leg l s.legs ≡ Some g → is_expected (arrival l e u k) x g ≡ true →
    previous g ≡ None → leg_part p s u m ≡ puts (connected g None x) []
resv-connects p s u m l e k x g is here expected first =
    ap (leg_part p s u) is ∙ ap (leg_of_resv p s (arrival l e u k) x) here ∙ rw (expected, first) refl

-- At a Resv that confirms its activation there, the leg is Live.
pub resv-confirms : (p : LocalNode) (s : NodeState) (u : NodeId) (m : Msg) (l : Lsp) (e : NodeId) (k : LinkId) (x : ℕ)
    (g : Leg) → m ≡ Resv l e k x → find_leg l s.legs ≡ Some g → is_expected (arrival l e u k) x g ≡ false →
    is_confirmed (arrival l e u k) x g ≡ true → previous g ≡ None → leg_part p s u m ≡ puts (with_phase Live g) []
resv-confirms p s u m l e k x g is here other c first =
    ap (leg_part p s u) is ∙ ap (leg_of_resv p s (arrival l e u k) x) here ∙ rw (other, c, first) refl

module _ (t : Network) (s : Mesh) (o : Routes) (d u : NodeId) (m : Msg) (rest : List Msg)
    (was : s.mail u.0 d.0 ≡ m ∷ rest) (learnt : AreRowsOf t (s.nodes d.0).learnt) where
  module _ (f : EachFollows t s o) (may : CallsMayPair t s o) (backs : CallsBackHere s) where
    pub leg_follows : EachFollows t (after_leg t s d u m) o
    leg_follows l = take_follows t s o d u m rest was learnt l (o l) (f l) (is_notice m) (same_lsp (lsp_of m) l)
        refl refl

    -- The call follows at the ingress

    abbrev Steps : Answer → Type 0
    Steps a = EachStepped t (after_leg t s d u m) d o a

    quiet : Steps nothing
    quiet = stepped_quiet t (after_leg t s d u m) d o nothing leg_follows
        (record { legs = refl; sent = refl; numbers = refl })

    -- the leg that the message leaves is in its place
    placed : (g : Leg) (outs : List Out) → leg_part (local_node t d) (s.nodes d.0) u m ≡ puts g outs →
        leg_at (after_leg t s d u m) g.lsp d ≡ Some g
    placed g outs is =
        leg-here (without_first s u.0 d.0) d g.lsp (leg_part (local_node t d) (s.nodes d.0) u m) ∙
        ap (λ (a : Answer). leg_after g.lsp a.legs (leg_at s g.lsp d)) is ∙ rw (same_lsp-refl g.lsp) refl

    module _ (l : Lsp) (g : Leg) (here : leg_at s l d ≡ Some g) where
      own_leg : g.lsp ≡ l
      own_leg = found-lsp l (s.nodes d.0).legs g here

      stands : leg_at s g.lsp d ≡ Some g
      stands = subst (λ k. leg_at s k d ≡ Some g) (sym own_leg) here

      begins_here : previous g ≡ None → g.lsp.ingress ≡ d
      begins_here first = no_previous t s o g.lsp d g (o g.lsp) (f g.lsp) stands first

      sent_here : previous g ≡ None → o g.lsp ≡ Some (route_from (local_node t d) g)
      sent_here first = whole-route t s o g.lsp d g (o g.lsp) (f g.lsp) (begins_here first) stands

      answered_here : (x : ℕ) (h : Option Neighbour) → previous g ≡ h →
          (previous g ≡ None → leg_part (local_node t d) (s.nodes d.0) u m ≡ puts (connected g None x) []) →
          Steps (at_ingress h (call_answered (local_node t d) (s.nodes d.0) (connected g None x)
          (call_with g.lsp (s.nodes d.0).calls)))
      answered_here x (Some h) first puts = quiet
      answered_here x None first puts =
          answered_stepped t (after_leg t s d u m) d o leg_follows (s.nodes d.0)
          (sym (take_next t s o d u m rest was learnt d.0)) learnt
          (connected g None x) (begins_here first) (sent_here first) (placed (connected g None x) [] (puts first))
          (call_with g.lsp (s.nodes d.0).calls) paired
        where
          paired : (c : CallRec) → call_with g.lsp (s.nodes d.0).calls ≡ Some c → is_work g.role ≡ true →
              c.protected ≡ true → MayPair t d o c (connected g None x)
          paired c called work protected =
              let pair = may d g c stands called work protected in
              record { given = pair.given; searched = pair.searched }

      refused_here : (code : ErrCode) (h : Option Neighbour) → previous g ≡ h →
          Steps (at_ingress h (call_refused code g (call_with g.lsp (s.nodes d.0).calls)))
      refused_here code (Some h) first = quiet
      refused_here code None first =
          refused_stepped t (after_leg t s d u m) d o leg_follows (s.nodes d.0)
          (sym (take_next t s o d u m rest was learnt d.0)) learnt
          g (begins_here first) (sent_here first) code (call_with g.lsp (s.nodes d.0).calls)

      turned_here : g.phase ≡ Armed → (h : Option Neighbour) → previous g ≡ h →
          (previous g ≡ None → leg_part (local_node t d) (s.nodes d.0) u m ≡ puts (with_phase Live g) []) →
          Steps (at_ingress h (call_turned (s.nodes d.0) (with_phase Live g) (call_with g.lsp (s.nodes d.0).calls)))
      turned_here armed (Some h) first puts = quiet
      turned_here armed None first puts =
          turned_stepped t (after_leg t s d u m) d o leg_follows (s.nodes d.0) (with_phase Live g)
          (record {
            begins = record {
              there = placed (with_phase Live g) [] (puts first);
              ingress = ap (λ (n : NodeId). n.0) (begins_here first);
            };
            turned = λ _. record {
              role = armed_backup t s o g.lsp d g (o g.lsp) (f g.lsp) stands armed;
              live = refl;
            };
          })
          (call_with g.lsp (s.nodes d.0).calls)

      contended_here : (h : Option Neighbour) →
          Steps (at_ingress h (call_contended (s.nodes d.0) (with_phase Held g) (call_with g.lsp (s.nodes d.0).calls)))
      contended_here (Some h) = quiet
      contended_here None =
          contended_stepped t (after_leg t s d u m) d o leg_follows (s.nodes d.0) (with_phase Held g)
          (call_with g.lsp (s.nodes d.0).calls)

      failed_here : (failure : PathFailure) → Steps (call_of_failure (s.nodes d.0) g failure)
      failed_here failure =
          if_cases Steps failure.removed _ _
          (λ r. if_cases Steps (is_asked g.phase) _ _ (λ e. refused_here failure.code (previous g) refl) (λ e. quiet))
          (λ r. if_cases Steps (is_armed g.phase) _ _ (λ e. contended_here (previous g)) (λ e. quiet))

    resv_call : (l : Lsp) (e : NodeId) (k : LinkId) (x : ℕ) → m ≡ Resv l e k x → (h : Option Leg) → leg_at s l d ≡ h →
        Steps (call_of_resv (local_node t d) (s.nodes d.0) (arrival l e u k) x h)
    resv_call l e k x is None here = quiet
    resv_call l e k x is (Some g) here =
        if_cases Steps (is_expected (arrival l e u k) x g) _ _
        (λ expected. answered_here l g here x (previous g) refl (λ first.
        resv-connects (local_node t d) (s.nodes d.0) u m l e k x g is here expected first))
        (λ other. if_cases Steps (is_confirmed (arrival l e u k) x g) _ _
        (λ c. turned_here l g here (armed-is g.phase (and-left (is_armed g.phase) _ c)) (previous g) refl
        (λ first. resv-confirms (local_node t d) (s.nodes d.0) u m l e k x g is here other c first))
        (λ c. quiet))

    err_call : (l : Lsp) (failure : PathFailure) (h : Option Leg) → leg_at s l d ≡ h →
        Steps (call_of_err (s.nodes d.0) u failure h)
    err_call l failure None here = quiet
    err_call l failure (Some g) here =
        if_cases Steps (is_node (following g) u) _ _ (λ e. failed_here l g here failure) (λ e. quiet)

    -- A Notify changes no leg, so the backup of the call stands as before

    module _ (notice : is_notice m ≡ true) where
      still : (l : Lsp) → leg_at (after_leg t s d u m) l d ≡ leg_at s l d
      still l =
          leg-here (without_first s u.0 d.0) d l (leg_part (local_node t d) (s.nodes d.0) u m) ∙
          ap (λ cs. leg_after l cs (leg_at s l d)) (notice_only (local_node t d) (s.nodes d.0) u m notice).legs

      pub reported_backs : (l : Lsp) (down : Bool) (fibre : Fibre) (c : CallRec) →
          call_with l (s.nodes d.0).calls ≡ Some c →
          BackFits (after_leg t s d u m) d (with_report c l down fibre).state (leg_of c.back (s.nodes d.0).legs)
      reported_backs l down fibre c is b back =
          subst (λ state. BackStands (after_leg t s d u m) d state b) (sym (reported_state c l down fibre)) (record {
            begins = record {
              there = still b.lsp ∙ (backs d l c is b back).begins.there;
              ingress = (backs d l c is b back).begins.ingress;
            };
            turned = (backs d l c is b back).turned;
          })

      reported_call : (l : Lsp) (down : Bool) (fibre : Fibre) (called : Option CallRec) →
          call_with l (s.nodes d.0).calls ≡ called → Steps (call_reported (s.nodes d.0) l down fibre called)
      reported_call l down fibre None is = quiet
      reported_call l down fibre (Some c) is =
          decide_stepped t (after_leg t s d u m) d o leg_follows (s.nodes d.0).legs (with_report c l down fibre)
          (leg_of c.back (s.nodes d.0).legs) (reported_backs l down fibre c is)

      reported_here : (g : Leg) (down : Bool) (fibre : Option Fibre) → Steps (reported_on (s.nodes d.0) g down fibre)
      reported_here g down None = quiet
      reported_here g down (Some fibre) = reported_call g.lsp down fibre (call_with g.lsp (s.nodes d.0).calls) refl

      report_call : (n : Notice) (g : Leg) (down : Bool) (h : Option Neighbour) →
          Steps (at_ingress h (report_here (local_node t d) (s.nodes d.0) g n.at n.link down))
      report_call n g down (Some h) = quiet
      report_call n g down None =
          reported_here g down (fibre_into (route_from (local_node t d) g) g.egress n.at n.link)

      told_call : (n : Notice) (g : Leg) (told : Option Bool) →
          Steps (notice_here (local_node t d) (s.nodes d.0) n g told)
      told_call n g None = quiet
      told_call n g (Some down) = report_call n g down (previous g)

      notice_call : (n : Notice) (h : Option Leg) → Steps (call_of_notice (local_node t d) (s.nodes d.0) u n h)
      notice_call n None = quiet
      notice_call n (Some g) =
          if_cases Steps (not (is_closing g.phase) && is_node (following g) u) _ _
          (λ e. told_call n g (reported n.code)) (λ e. quiet)

    call_steps : (n : Msg) → m ≡ n → Steps (call_part (local_node t d) (s.nodes d.0) u n)
    call_steps (Path l e k route set up r) is = quiet
    call_steps (Resv l e k x) is = resv_call l e k x is (leg_at s l d) refl
    call_steps (PathTear l e k) is = quiet
    call_steps (PathErr l e at gone code) is =
        err_call l (record { lsp = l; msg = PathErr l e at gone code; removed = gone; code = code })
        (leg_at s l d) refl
    call_steps (Notify l e at k code) is =
        notice_call (rw is refl)
        (record { lsp = l; msg = Notify l e at k code; at = at; link = k; code = code }) (leg_at s l d)

    pub take_stepped : EachStepped t (without_first s u.0 d.0) d o (on_message (local_node t d) (s.nodes d.0) u m)
    take_stepped =
        subst (EachStepped t (without_first s u.0 d.0) d o) (sym (in-parts (local_node t d) (s.nodes d.0) u m))
        (stepped_then t (without_first s u.0 d.0) d o (leg_part (local_node t d) (s.nodes d.0) u m)
        (call_part (local_node t d) (s.nodes d.0) u m) (take_begins_none t s o d u m rest was learnt f)
        (call_steps m refl))

pub traced_take : (t : Network) (s : Mesh) (o : Routes) (d u : NodeId) (ms : List Msg) → s.mail u.0 d.0 ≡ ms →
    has_first ms ≡ true → AreRowsOf t (s.nodes d.0).learnt → EachFollows t s o → CallsMayPair t s o →
    CallsBackHere s → EachStepped t (without_first s u.0 d.0) d o (on_first (local_node t d) (s.nodes d.0) u ms)
traced_take t s o d u [] was some learnt f may backs = absurd cc
traced_take t s o d u (m ∷ rest) was some learnt f may backs = take_stepped t s o d u m rest was learnt f may backs
