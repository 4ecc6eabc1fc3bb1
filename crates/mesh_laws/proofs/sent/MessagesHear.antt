-- Each message: a leg sends no more labels afterwards than before, or than the message gives it; and no answer has both
-- a message that lets go and one that brings a label.
use Rattle.std.proofs.Common.{◌≡◌, ℕ, Bool, true, false, not, drop, nat_eq, [], refl, sym, subst, arith, inl, inr}
use Rattle.std.specs.Prelude.{◌⊎◌, ◌&&◌, Option, Some, None}
use Rattle.ason_base.specs.{Codes.torn_code, declared.calls.Phase.TheVariants.{Held, Live}, declared.ids.Fibre.Fibre, declared.ids.Lsp.Lsp, declared.ids.NodeId.NodeId, declared.messages.Msg.Msg, declared.messages.Msg.TheVariants.{Path, Resv, PathTear, PathErr, Notify}, declared.tables.CallRec.CallRec, declared.tables.Leg.Leg, declared.tables.Out.Out}
use Rattle.ason_base.proofs.{Bools.{and-left, and-right}, JoinedEnds.same-node}
use Rattle.mesh_rules.specs.{declared.arrivals.Arrival.Arrival, declared.neighbours.Neighbour.Neighbour, ActivationAnswers.{confirmed, disarmed, is_confirmed}, CallSteps.{call_answered, call_contended, call_refused, call_turned}, Calls.call_with, Changes.{Answer, nothing, puts, removes, to_node}, Legs.{connected, find_leg, following, is_armed, is_asked, is_closing, is_node, is_over, label_through, leg_of, previous, sends_label, with_phase}, LocalNodes.{LocalNode, own_link}, Messages.{arrival, on_message}, Notifies.{Notice, notice_passed, notice_told, notify_with}, Pairs.route_from, PathErrs.{PathFailure, err_passed, path_err_with}, Paths.{PathRequest, path_with}, Reports.{call_reported, fibre_into, reported, reported_on, with_report}, Resvs.{answered, is_expected, labels_left, passed_back, resv_with}, State.NodeState, Tears.{tear_with, torn}}
use Rattle.mesh_rules.proofs.AnswerParts.{beside}
use Rattle.mesh_nodes.proofs.{Cases.if_cases, CallList.called-found, LegList.found-lsp}
use Rattle.lsp_laws.proofs.{nodes.Facts.NodeFacts, nodes.LegEnds.no_previous-here}
use Rattle.mesh_laws.specs.HeardLaw.{brings, sends_of}
use Rattle.mesh_laws.proofs.{sent.CallsHear.{answered-calm, backup-may, contended-calm, decide-calm, refused-calm, turned-calm}, sent.LegsHear.connected-sends, sent.May.{CalmAnswer, FineAnswer, Given, May, both, closed-may, confirmed-may, fine, found-may, gift, held-may, here-may, idle, is_labelled, reserved-idle}, sent.PathsHear.{again-calm, first-fine, resv-sent}}

module _ (p : LocalNode) (s : NodeState) (Q : Given) (facts : NodeFacts p.id.0 s) where
  abbrev IsCalm : Answer → Type 0
  IsCalm a = CalmAnswer p s Q a

  abbrev IsFine : Answer → Type 0
  IsFine a = FineAnswer p s Q a

  fine_still : IsFine nothing
  fine_still = fine p s Q nothing (idle p s Q)

  stands : (l : Lsp) (g : Leg) → find_leg l s.legs ≡ Some g → May p s Q g
  stands l g found = found-may p s Q l g found

  -- a leg without a previous node begins here
  begins : (l : Lsp) (g : Leg) → find_leg l s.legs ≡ Some g → previous g ≡ None → g.lsp.ingress ≡ p.id
  begins l g found none = same-node g.lsp.ingress p.id (no_previous-here p.id.0 s.lsp g (facts.leg l g found) none)

  -- A Resv at a leg that was found; what it brings is given

  module _ (a : Arrival) (y : ℕ) (e : NodeId)
      (given : (f : Fibre) (x : ℕ) → brings f x (Resv a.lsp e a.link y) ≡ true → Q.labels a.lsp f x) where
    connected-may : (g : Leg) (label : Option ℕ) → find_leg a.lsp s.legs ≡ Some g →
        is_over (following g) a.from a.link ≡ true → May p s Q (connected g label y)
    connected-may g label found over = record {
      sent = λ f x h. go (following g) refl over f x h;
      says = (stands a.lsp g found).says;
      arms = λ back used away. absurd (reserved-idle g.role back used);
      way = (stands a.lsp g found).way;
    }
      where
        mine : g.lsp ≡ a.lsp
        mine = found-lsp a.lsp s.legs g found

        go : (o : Option Neighbour) → following g ≡ o → is_over o a.from a.link ≡ true → (f : Fibre) (x : ℕ) →
            sends_label f x (connected g label y) ≡ true →
            (sends_of f x (find_leg g.lsp s.legs) ≡ true) ⊎ Q.labels g.lsp f x
        go None is over f x h = absurd (cc over)
        go (Some n) is over f x h =
            let test = and-right (nat_eq n.node.0 a.from.0) (nat_eq n.fibre.link.0 a.link.0) over in
            let link : n.fibre.link.0 ≡ a.link.0 = grind arith in
            now (connected-sends g label y f x a.lsp e a.link n.fibre (beside g.next g.out_fibre n is) link h)
          where
            now : (brings f x (Resv a.lsp e a.link y) ≡ true) ⊎ (sends_label f x g ≡ true) →
                (sends_of f x (find_leg g.lsp s.legs) ≡ true) ⊎ Q.labels g.lsp f x
            now (inl brought) = inr (subst (λ l. Q.labels l f x) (sym mine) (given f x brought))
            now (inr had) = (stands a.lsp g found).sent f x had

    passed-fine : (g : Leg) (h : Neighbour) (o : Option ℕ) → find_leg a.lsp s.legs ≡ Some g →
        is_over (following g) a.from a.link ≡ true → IsFine (passed_back p a g h y o)
    passed-fine g h None found over =
        record { legs = (closed-may p s Q g (stands a.lsp g found), tt); sent = inr (refl, (refl, tt)) }
    passed-fine g h (Some z) found over =
        record { legs = (connected-may g (Some z) found over, tt); sent = inl (refl, tt) }

    answered-fine : (g : Leg) (o : Option Neighbour) → find_leg a.lsp s.legs ≡ Some g → previous g ≡ o →
        is_over (following g) a.from a.link ≡ true → IsFine (answered p s a y g o)
    answered-fine g None found first over =
        let may = connected-may g None found over in
        fine p s Q (answered p s a y g None)
        (both p s Q (puts (connected g None y) []) (call_answered p s (connected g None y) (call_with g.lsp s.calls))
        (record { legs = (may, tt); sent = tt })
        (answered-calm p s Q (connected g None y) (call_with g.lsp s.calls) (may, begins a.lsp g found first)))
    answered-fine g (Some h) found first over =
        passed-fine g h (label_through p (labels_left p s g h) y) found over

    confirmed-calm : (g : Leg) (o : Option Neighbour) → find_leg a.lsp s.legs ≡ Some g → previous g ≡ o →
        is_armed g.phase ≡ true → IsCalm (confirmed s g o)
    confirmed-calm g None found first armed =
        let may = here-may p s Q Live g (stands a.lsp g found, begins a.lsp g found first) in
        both p s Q (puts (with_phase Live g) []) (call_turned s (with_phase Live g) (call_with g.lsp s.calls))
        (record { legs = (may.0, tt); sent = tt })
        (turned-calm p s Q (with_phase Live g) (call_with g.lsp s.calls) may)
    confirmed-calm g (Some h) found first armed = record {
      legs = (confirmed-may p s Q g armed (stands a.lsp g found), tt);
      sent = resv-sent p s Q g (Some h) g.in_label;
    }

    resv-fine : (o : Option Leg) → find_leg a.lsp s.legs ≡ o → IsFine (resv_with p s a y o)
    resv-fine None found = fine_still
    resv-fine (Some g) found =
        if_cases IsFine (is_expected a y g) _ _
        (λ e. answered-fine g (previous g) found refl
        (and-left (is_over (following g) a.from a.link) _ (and-right (is_asked g.phase) _ e)))
        (λ e. if_cases IsFine (is_confirmed a y g) _ _
        (λ e. fine p s Q (confirmed s g (previous g))
        (confirmed-calm g (previous g) found refl (and-left (is_armed g.phase) _ e)))
        (λ e. fine_still))

  -- A PathTear

  tear-fine : (a : Arrival) (o : Option Leg) → find_leg a.lsp s.legs ≡ o → IsFine (tear_with p a o)
  tear-fine a None found = fine_still
  tear-fine a (Some g) found =
      if_cases IsFine (not (is_closing g.phase) && is_over (previous g) a.from a.link) _ _
      (λ e. go (following g)) (λ e. fine_still)
    where
      answer : Out
      answer = to_node a.from (PathErr g.lsp g.egress p.id true torn_code)

      go : (o : Option Neighbour) → IsFine (torn g answer o)
      go None = record { legs = tt; sent = inr (refl, tt) }
      go (Some h) =
          record { legs = (closed-may p s Q g (stands a.lsp g found), tt); sent = inr (refl, (refl, tt)) }

  -- A PathErr

  err-fine : (u : NodeId) (e : PathFailure) (o : Option Leg) → find_leg e.lsp s.legs ≡ o →
      is_labelled e.msg ≡ false → IsFine (path_err_with s u e o)
  err-fine u e None found bare = fine_still
  err-fine u e (Some g) found bare =
      if_cases IsFine (is_node (following g) u) _ _
      (λ here. if_cases IsFine e.removed _ _
      (λ gone. if_cases IsFine (is_asked g.phase) _ _ (λ asked. passed (previous g))
      (λ other. if_cases IsFine (is_closing g.phase) _ _ (λ c. record { legs = tt; sent = inl tt }) (λ c. fine_still)))
      (λ stays. if_cases IsFine (is_armed g.phase) _ _ (λ armed. held (previous g) refl) (λ other. fine_still)))
      (λ there. fine_still)
    where
      passed : (o : Option Neighbour) → IsFine (err_passed s g e o)
      passed None =
          fine p s Q (err_passed s g e None)
          (both p s Q (removes g.lsp []) (call_refused e.code g (call_with g.lsp s.calls))
          (record { legs = tt; sent = tt })
          (refused-calm p s Q e.code g (call_with g.lsp s.calls)))
      passed (Some h) = record { legs = tt; sent = inr (bare, tt) }

      may : May p s Q (with_phase Held g)
      may = held-may p s Q g (stands e.lsp g found)

      held : (o : Option Neighbour) → previous g ≡ o → IsFine (disarmed s g e.msg o)
      held None first =
          fine p s Q (disarmed s g e.msg None)
          (both p s Q (puts (with_phase Held g) []) (call_contended s (with_phase Held g) (call_with g.lsp s.calls))
          (record { legs = (may, tt); sent = tt })
          (contended-calm p s Q (with_phase Held g) (call_with g.lsp s.calls) (may, begins e.lsp g found first)))
      held (Some h) first = record { legs = (may, tt); sent = inr (bare, tt) }

  -- A Notify

  notify-fine : (u : NodeId) (m : Notice) (o : Option Leg) → is_labelled m.msg ≡ false → IsFine (notify_with p s u m o)
  notify-fine u m None bare = fine_still
  notify-fine u m (Some g) bare =
      if_cases IsFine (not (is_closing g.phase) && is_node (following g) u) _ _ (λ e. told (reported m.code))
      (λ e. fine_still)
    where
      report : (down : Bool) (o : Option Fibre) → IsCalm (reported_on s g down o)
      report down None = idle p s Q
      report down (Some f) = go (call_with g.lsp s.calls) refl
        where
          go : (o : Option CallRec) → call_with g.lsp s.calls ≡ o → IsCalm (call_reported s g.lsp down f o)
          go None is = idle p s Q
          go (Some c) is =
              decide-calm p s Q (with_report c g.lsp down f) (leg_of c.back s.legs)
              (backup-may p s Q facts c.call c (called-found g.lsp s.calls c facts.calls_rise is))

      passed : (down : Bool) (o : Option Neighbour) → IsFine (notice_passed p s m g down o)
      passed down None =
          fine p s Q (notice_passed p s m g down None)
          (report down (fibre_into (route_from p g) g.egress m.at m.link))
      passed down (Some h) = record { legs = tt; sent = inr (bare, tt) }

      told : (o : Option Bool) → IsFine (notice_told p s m g o)
      told None = fine_still
      told (Some down) = passed down (previous g)

-- each message; what it brings its LSP, and what it says that the LSP is for, is given
pub message-fine : (p : LocalNode) (s : NodeState) → NodeFacts p.id.0 s → (u : NodeId) (m : Msg) →
    FineAnswer p s (gift m) (on_message p s u m)
message-fine p s facts u (Path l e k route set up r) = go (find_leg l s.legs) refl
  where
    Q : Given
    Q = gift (Path l e k route set up r)

    asks : PathRequest
    asks = record { arrival = arrival l e u k; route = route; set = set; upstream = up; role = r }

    go : (o : Option Leg) → find_leg l s.legs ≡ o → FineAnswer p s Q (path_with p s asks o)
    go None found = first-fine p s Q asks found (refl, refl) (λ f x h. (refl, h)) (own_link p k) refl
    go (Some g) found =
        fine p s Q (path_with p s asks (Some g))
        (again-calm p s Q (arrival l e u k) (drop 1 route) g found r (refl, refl))
message-fine p s facts u (Resv l e k y) =
    resv-fine p s (gift (Resv l e k y)) facts (arrival l e u k) y e (λ f x h. (refl, h)) (find_leg l s.legs) refl
message-fine p s facts u (PathTear l e k) =
    tear-fine p s (gift (PathTear l e k)) facts (arrival l e u k) (find_leg l s.legs) refl
message-fine p s facts u (PathErr l e at gone code) =
    err-fine p s (gift (PathErr l e at gone code)) facts u
    (record { lsp = l; msg = PathErr l e at gone code; removed = gone; code = code }) (find_leg l s.legs) refl refl
message-fine p s facts u (Notify l e at k code) =
    notify-fine p s (gift (Notify l e at k code)) facts u
    (record { lsp = l; msg = Notify l e at k code; at = at; link = k; code = code }) (find_leg l s.legs) refl
