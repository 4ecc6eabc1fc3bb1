-- Which messages and orders tell nothing of the fibres of an LSP's route: all but its own Notifies and its
-- first Path.
use Rattle.std.proofs.{Common.{◌≡◌, ℕ, Bool, true, false, nat_eq, not, List, [], ◌∷◌, refl, sym, ◌∙◌}, lemmas.Bool.not-true}
use Rattle.std.specs.Prelude.{◌&&◌, ◌||◌, Option, Some, None}
use Rattle.ason_base.specs.{Codes.torn_code, Labels.least, Lsps.same_lsp, Network.other_end, declared.calls.Phase.TheVariants.{Armed, Held, Live}, declared.codes.ErrCode.ErrCode, declared.ids.Fibre.Fibre, declared.ids.Lsp.Lsp, declared.ids.NodeId.NodeId, declared.messages.Msg.Msg, declared.messages.Msg.TheVariants.{Path, Resv, PathErr}, declared.messages.PathRole.PathRole, declared.messages.PathRole.TheVariants.{Work, Back}, declared.network.LinkSpec.LinkSpec, declared.steps.Step.Step, declared.tables.Leg.Leg, declared.tables.Out.Out}
use Rattle.ason_base.proofs.Bools.{and-left, and-right}
use Rattle.mesh_rules.specs.{declared.arrivals.Arrival.Arrival, declared.neighbours.Neighbour.Neighbour, ActivationAnswers.{confirmed, contended, disarmed, is_confirmed}, Activations.{armed_on, busy_to, path_again, path_to, resv_to, taken_back}, Calls.call_with, Changes.{changed, puts, removes, to_node}, Legs.{closed, connected, find_leg, following, is_active_backup, is_armed, is_asked, is_closing, is_contended, is_held, is_in_use, is_node, is_over, is_work, label_through, previous, with_leg, with_phase}, LocalNodes.{LocalNode, leads, own_link}, Notifies.{Notice, notice_passed, notice_told, notify_with}, PathErrs.{PathFailure, err_passed, path_err_with, removed}, Paths.{PathRequest, admitted, at_egress, back_label, checks, egress_leg, error_to, first_failure, first_path, in_transit, is_active, judged, offered_labels, risks_here, set_on, transit_leg}, Pairs.{beside_lsp, route_from}, Reports.{fibre_into, reported, reported_on}, Resvs.{answered, is_expected, labels_left, passed_back, resv_with}, State.NodeState, Tears.{tear_with, torn}}
use Rattle.mesh_nodes.proofs.{CallList.called-names, Cases.if_cases, LegList.{find-with_leg, same_lsp-refl}}
use Rattle.lsp_laws.proofs.nodes.Facts.{NodeFacts}
use Rattle.mesh_laws.proofs.{reports.GentleWords.{AllMild, IsGentle, IsMild}, reports.AnswerParts.{both-gentle, mild-gentle, nothing-gentle, other-leg, put-leg, puts-gentle, removes-gentle, same-calls, sends-gentle}, reports.GentleAnswers.{taken_on-active, taken_on-quiet, used-stands}, reports.StoodLegs.{answered-gentle, armed-stands, asked-stands, back-activates, closing-done, contended-gentle, held-stands, refused-gentle, reported-gentle, reserved-back, reserved-done, turned-gentle}, reports.StandingCalls.{IsOldLsp, begins-here, called-there, leg-stands, mild-resv, new-apart, not-both}}

module _ (p : LocalNode) (s : NodeState) (facts : NodeFacts p.id.0 s) (l : Lsp) where
  -- a Path of an LSP that has a leg here
  module _ (g : Leg) (found : find_leg g.lsp s.legs ≡ Some g) where
    pub armed_on-gentle : (route : List Step) (r : PathRole) → is_active r ≡ true → is_held g.phase ≡ true →
        (h : Option Neighbour) → IsGentle s l (armed_on g route r h)
    armed_on-gentle route r active held None =
        puts-gentle s l g (with_phase Live g) (resv_to g (previous g) g.in_label) found refl refl
        (λ e. held-stands g.phase held) (mild-resv p s facts l g (previous g) g.in_label)
    armed_on-gentle route r active held (Some h) =
        puts-gentle s l g (with_phase Armed g) (path_to g route r h ∷ []) found refl refl
        (λ e. held-stands g.phase held) ((λ own. (refl, rw active refl)), tt)

    -- the leg that takes back was Armed or Live, and is Held
    taken_back-gentle : (route : List Step) (r : PathRole) → is_in_use g.phase ≡ true →
        IsGentle s l (taken_back g route r)
    taken_back-gentle route r used = record {
      legs = put-leg l s.legs g (with_phase Held g) found refl refl (λ e. used-stands g.phase used);
      sent = taken_on-quiet l g route r (following g);
      active = taken_on-active l g route r (following g) (find_leg l s.legs);
      down = refl;
      calls = same-calls l s.calls;
    }

    pub again-gentle : (a : Arrival) (route : List Step) (r : PathRole) → IsGentle s l (path_again p s a route r g)
    again-gentle a route (Work guard) = nothing-gentle s l
    again-gentle a route (Back false work primary) =
        if_cases (IsGentle s l) (is_active_backup g && is_over (previous g) a.from a.link) _ _
        (λ h. taken_back-gentle route (Back false work primary)
        (and-right (not (is_work g.role)) (is_in_use g.phase) (and-left (is_active_backup g) _ h)))
        (λ h. nothing-gentle s l)
    again-gentle a route (Back true work primary) =
        if_cases (IsGentle s l) (is_held g.phase && is_over (previous g) a.from a.link) _ _
        (λ h. if_cases (IsGentle s l) (is_contended s.legs g) _ _
        (λ c. sends-gentle s l (busy_to p g a.from ∷ []) ((λ own. (refl, refl)), tt))
        (λ c. armed_on-gentle route (Back true work primary) refl (and-left (is_held g.phase) _ h) (following g)))
        (λ h. nothing-gentle s l)

    -- Resv

    abbrev after : Leg → List Out → NodeState
    after g' outs = changed s (puts g' outs)

    put-there : (g' : Leg) → g'.lsp ≡ g.lsp → find_leg g'.lsp (with_leg g' s.legs) ≡ Some g'
    put-there g' own = find-with_leg g' s.legs g'.lsp ∙ rw (same_lsp-refl g'.lsp) refl

    pub passed_back-gentle : (a : Arrival) (h : Neighbour) (x : ℕ) → is_asked g.phase ≡ true → (o : Option ℕ) →
        IsGentle s l (passed_back p a g h x o)
    passed_back-gentle a h x asked None =
        puts-gentle s l g (closed g) _ found refl (closing-done g.phase g.role) (λ e. asked-stands g.phase asked)
        ((λ own. (refl, refl)), ((λ own. (refl, refl)), tt))
    passed_back-gentle a h x asked (Some y) =
        puts-gentle s l g (connected g (Some y) x) _ found refl (reserved-done g.role)
        (λ e. asked-stands g.phase asked)
        ((λ own. (refl, refl)), tt)

    pub answers-gentle : IsOldLsp p s l → (a : Arrival) (x : ℕ) → is_asked g.phase ≡ true → (h : Option Neighbour) →
        previous g ≡ h → IsGentle s l (answered p s a x g h)
    answers-gentle old a x asked (Some h) is =
        passed_back-gentle a h x asked (label_through p (labels_left p s g h) x)
    answers-gentle old a x asked None is =
        both-gentle s l (puts (connected g None x) []) _
        (puts-gentle s l g (connected g None x) [] found refl (reserved-done g.role)
        (λ e. asked-stands g.phase asked) tt)
        (answered-gentle p (after (connected g None x) []) s l (connected g None x)
        (record {
          found = put-there (connected g None x) refl;
          activates = λ held. back-activates g.path_role
              (sym (facts.leg g.lsp g found).role ∙ reserved-back g.role held);
        })
        (new-apart p s facts l old (beside_lsp g.lsp s.lsp) (begins-here p s facts l g found is) refl)
        (call_with g.lsp s.calls)
        (λ c called. called-there p s facts l g.lsp c called))

    pub confirmed-gentle : is_armed g.phase ≡ true → (h : Option Neighbour) → IsGentle s l (confirmed s g h)
    confirmed-gentle armed (Some h) =
        puts-gentle s l g (with_phase Live g) _ found refl refl (λ e. armed-stands g.phase armed)
        (mild-resv p s facts l g (Some h) g.in_label)
    confirmed-gentle armed None =
        both-gentle s l (puts (with_phase Live g) []) _
        (puts-gentle s l g (with_phase Live g) [] found refl refl (λ e. armed-stands g.phase armed) tt)
        (turned-gentle p (after (with_phase Live g) []) s l (with_phase Live g)
        (record { found = put-there (with_phase Live g) refl; activates = λ held. absurd (cc held) })
        (call_with g.lsp s.calls) (λ c called. called-there p s facts l g.lsp c called))

    pub resv-gentle : IsOldLsp p s l → (a : Arrival) (x : ℕ) → IsGentle s l (resv_with p s a x (Some g))
    resv-gentle old a x =
        if_cases (IsGentle s l) (is_expected a x g) _ _
        (λ h. answers-gentle old a x (and-left (is_asked g.phase) _ h) (previous g) refl)
        (λ h. if_cases (IsGentle s l) (is_confirmed a x g) _ _
        (λ k. confirmed-gentle (and-left (is_armed g.phase) _ k) (previous g)) (λ k. nothing-gentle s l))

    -- PathErr

    pub err_passed-gentle : (e : PathFailure) → IsMild l e.msg → (h : Option Neighbour) →
        IsGentle s l (err_passed s g e h)
    err_passed-gentle e mild (Some h) = removes-gentle s l g.lsp (to_node h.node e.msg ∷ []) (mild, tt)
    err_passed-gentle e mild None =
        both-gentle s l (removes g.lsp []) _ (removes-gentle s l g.lsp [] tt)
        (refused-gentle p (changed s (removes g.lsp [])) s l e.code g (call_with g.lsp s.calls)
        (λ c called. called-there p s facts l g.lsp c called)
        (λ c called. not-both p s facts l c.call c (called-there p s facts l g.lsp c called)))

    pub removed-gentle : (e : PathFailure) → IsMild l e.msg → IsGentle s l (removed s g e)
    removed-gentle e mild =
        if_cases (IsGentle s l) (is_asked g.phase) _ _ (λ h. err_passed-gentle e mild (previous g))
        (λ h. if_cases (IsGentle s l) (is_closing g.phase) _ _ (λ k. removes-gentle s l g.lsp [] tt)
        (λ k. nothing-gentle s l))

    pub disarmed-gentle : (m : Msg) → IsMild l m → is_armed g.phase ≡ true → (h : Option Neighbour) →
        IsGentle s l (disarmed s g m h)
    disarmed-gentle m mild armed (Some h) =
        puts-gentle s l g (with_phase Held g) _ found refl refl (λ e. armed-stands g.phase armed) (mild, tt)
    disarmed-gentle m mild armed None =
        both-gentle s l (puts (with_phase Held g) []) _
        (puts-gentle s l g (with_phase Held g) [] found refl refl (λ e. armed-stands g.phase armed) tt)
        (contended-gentle p (after (with_phase Held g) []) s l (with_phase Held g)
        (record {
          found = put-there (with_phase Held g) refl;
          activates = λ held. back-activates g.path_role
              (sym (facts.leg g.lsp g found).role ∙ (facts.leg g.lsp g found).held (armed-either armed));
        })
        (call_with g.lsp s.calls) (λ c called. called-there p s facts l g.lsp c called))
      where
        armed-either : is_armed g.phase ≡ true → (is_held g.phase || is_armed g.phase) ≡ true
        armed-either e = rw e (last (is_held g.phase))
          where
            last : (b : Bool) → (b || true) ≡ true
            last true = refl
            last false = refl

    pub contended_leg-gentle : (m : Msg) → IsMild l m → IsGentle s l (contended s g m)
    contended_leg-gentle m mild =
        if_cases (IsGentle s l) (is_armed g.phase) _ _ (λ h. disarmed-gentle m mild h (previous g))
        (λ h. nothing-gentle s l)

    pub err-gentle : (u : NodeId) (e : PathFailure) → IsMild l e.msg → IsGentle s l (path_err_with s u e (Some g))
    err-gentle u e mild =
        if_cases (IsGentle s l) (is_node (following g) u) _ _
        (λ h. if_cases (IsGentle s l) e.removed _ _ (λ k. removed-gentle e mild)
        (λ k. contended_leg-gentle e.msg mild)) (λ h. nothing-gentle s l)

    -- PathTear

    pub torn-gentle : (answer : Out) → IsMild l answer.msg → is_closing g.phase ≡ false → (h : Option Neighbour) →
        IsGentle s l (torn g answer h)
    torn-gentle answer mild standing None = removes-gentle s l g.lsp (answer ∷ []) (mild, tt)
    torn-gentle answer mild standing (Some h) =
        puts-gentle s l g (closed g) _ found refl (closing-done g.phase g.role) (λ e. standing)
        (mild, ((λ own. (refl, refl)), tt))

    pub tear-gentle : (a : Arrival) → IsGentle s l (tear_with p a (Some g))
    tear-gentle a =
        if_cases (IsGentle s l) (not (is_closing g.phase) && is_over (previous g) a.from a.link) _ _
        (λ h. torn-gentle (to_node a.from (PathErr g.lsp g.egress p.id true torn_code)) (λ own. (refl, refl))
        (not-true (is_closing g.phase) (and-left (not (is_closing g.phase)) _ h)) (following g))
        (λ h. nothing-gentle s l)

    -- a Notify of another LSP

    module _ (apart : same_lsp g.lsp l ≡ false) where
      reports-gentle : (down : Bool) (o : Option Fibre) → IsGentle s l (reported_on s g down o)
      reports-gentle down None = nothing-gentle s l
      reports-gentle down (Some f) =
          reported-gentle p s s l g.lsp down f (call_with g.lsp s.calls)
          (λ c called. called-there p s facts l g.lsp c called)
          (λ c called. called-names g.lsp s.calls c called) (λ c called. leg-stands p s facts l c.back) apart

      notice_passed-gentle : (m : Notice) → IsMild l m.msg → (down : Bool) (h : Option Neighbour) →
          IsGentle s l (notice_passed p s m g down h)
      notice_passed-gentle m mild down None =
          reports-gentle down (fibre_into (route_from p g) g.egress m.at m.link)
      notice_passed-gentle m mild down (Some h) = sends-gentle s l (to_node h.node m.msg ∷ []) (mild, tt)

      notice_told-gentle : (m : Notice) → IsMild l m.msg → (o : Option Bool) → IsGentle s l (notice_told p s m g o)
      notice_told-gentle m mild None = nothing-gentle s l
      notice_told-gentle m mild (Some down) = notice_passed-gentle m mild down (previous g)

      pub notify-gentle : (u : NodeId) (m : Notice) → IsMild l m.msg → IsGentle s l (notify_with p s u m (Some g))
      notify-gentle u m mild =
          if_cases (IsGentle s l) (not (is_closing g.phase) && is_node (following g) u) _ _
          (λ h. notice_told-gentle m mild (reported m.code)) (λ h. nothing-gentle s l)

  -- the first Path of another LSP

  module _ (m : PathRequest) (apart : same_lsp m.arrival.lsp l ≡ false) where
    other-puts : (g : Leg) (outs : List Out) → g.lsp ≡ m.arrival.lsp → AllMild l outs → IsGentle s l (puts g outs)
    other-puts g outs own mild =
        mild-gentle s l (puts g outs) (other-leg l (find_leg l s.legs) g (rw own apart)) mild refl
        (same-calls l s.calls)

    admitted-gentle : (link : LinkSpec) (route : List Step) → IsGentle s l (admitted p s m link route)
    admitted-gentle link [] = ends (least (offered_labels p s m link))
      where
        ends : (x : Option ℕ) → IsGentle s l (at_egress p m link (risks_here p s m) (offered_labels p s m link) x)
        ends None = nothing-gentle s l
        ends (Some x) =
            other-puts (egress_leg p m link (risks_here p s m) (offered_labels p s m link) x)
            (to_node m.arrival.from (Resv m.arrival.lsp m.arrival.egress link.id x) ∷ []) refl
            ((λ own. (refl, refl)), tt)
    admitted-gentle link (hop ∷ route) = passes (own_link p hop.link)
      where
        passes : (o : Option LinkSpec) → IsGentle s l (in_transit p s m link route o)
        passes None = nothing-gentle s l
        passes (Some out) =
            other-puts
            (transit_leg p m link (risks_here p s m) out route (offered_labels p s m link) (back_label p s m out))
            (to_node (other_end out p.id) (Path m.arrival.lsp m.arrival.egress out.id route
            (set_on p out (offered_labels p s m link)) (back_label p s m out) m.role) ∷ []) refl
            ((λ same. absurd (cc (same, apart))), tt)

    judged-gentle : (link : LinkSpec) (o : Option ErrCode) → IsGentle s l (judged p s m link o)
    judged-gentle link (Some code) =
        sends-gentle s l (error_to m.arrival.from p m.arrival code ∷ []) ((λ own. (refl, refl)), tt)
    judged-gentle link None = admitted-gentle link m.route

    pub first_path-gentle : (o : Option LinkSpec) → IsGentle s l (first_path p s m o)
    first_path-gentle None = nothing-gentle s l
    first_path-gentle (Some link) =
        if_cases (IsGentle s l)
        (not (is_active m.role) && (leads (Some link) m.arrival.from p.id
        && not (nat_eq m.arrival.lsp.ingress.0 p.id.0))) _ _
        (λ h. judged-gentle link (first_failure (checks p s m link))) (λ h. nothing-gentle s l)
