-- What a message's rule changes and sends is of the message's LSP.
use Rattle.std.proofs.Common.{◌≡◌, ℕ, true, false, nat_eq, List, [], ◌∷◌, refl, drop}
use Rattle.std.specs.Prelude.{◌&&◌, not, Option, Some, None}
use Rattle.ason_base.specs.{Codes.torn_code, Labels.least, declared.codes.ErrCode.ErrCode, declared.ids.Lsp.Lsp, declared.ids.NodeId.NodeId, declared.steps.Step.Step, declared.network.LinkSpec.LinkSpec, declared.risks.Risk.Risk, declared.calls.Phase.TheVariants.Held, declared.messages.PathRole.PathRole, declared.messages.PathRole.TheVariants.{Work, Back}, declared.messages.Msg.Msg, declared.messages.Msg.TheVariants.{Path, Resv, PathTear, PathErr, Notify}, declared.tables.Leg.Leg, declared.tables.Out.Out}
use Rattle.mesh_rules.specs.{declared.arrivals.Arrival.Arrival, declared.changes.LegChange.LegChange, declared.changes.LegChange.TheVariants.{Goes, Put}, declared.neighbours.Neighbour.Neighbour, State.NodeState, Activations.{armed_on, path_again, resv_to, taken_on}, ActivationAnswers.is_confirmed, Changes.{Answer, nothing, puts, to_node}, LocalNodes.{LocalNode, own_link, leads}, Legs.{find_leg, is_active_backup, is_armed, is_asked, is_closing, is_contended, is_held, previous, following, is_node, is_over, with_phase, label_through}, Paths.{PathRequest, is_active, risks_here, first_failure, checks, offered_labels, at_egress, in_transit, admitted, judged, first_path, path_with}, Resvs.{is_expected, labels_left, passed_back}, PathErrs.PathFailure, Tears.{torn, tear_with}, Messages.arrival}
use Rattle.lsp_laws.specs.HopLaw.{lsp_of, is_notice}
use Rattle.mesh_nodes.proofs.{Cases.if_cases, LegList.found-lsp}
use Rattle.lsp_laws.proofs.hops.InParts.{leg_answers, leg_contended, leg_disarmed, leg_confirmed, leg_of_err, leg_of_resv, leg_part, leg_refused, leg_removed}

abbrev pub AllLegs : Lsp → List LegChange → Type 0
AllLegs l [] = Unit {0}
AllLegs l (Goes k ∷ cs) = (k ≡ l) × AllLegs l cs
AllLegs l (Put g ∷ cs) = (g.lsp ≡ l) × AllLegs l cs

-- each message is of this LSP, and none is a Notify
abbrev pub AllSent : Lsp → List Out → Type 0
AllSent l [] = Unit {0}
AllSent l (o ∷ outs) = (lsp_of o.msg ≡ l) × (is_notice o.msg ≡ false) × AllSent l outs

-- of one LSP
pub record IsOf (l : Lsp) (a : Answer) : Type 0 where
  pub legs : AllLegs l a.legs
  pub sent : AllSent l a.sent

-- of one LSP, and no number is given out
pub record Own (l : Lsp) (a : Answer) : Type 0 where
  pub legs : AllLegs l a.legs
  pub sent : AllSent l a.sent
  pub numbers : a.numbers ≡ None

-- an answer that changes no leg and sends nothing: what a call does alone
pub record IsQuietAnswer (a : Answer) : Type 0 where
  pub legs : a.legs ≡ []
  pub sent : a.sent ≡ []
  pub numbers : a.numbers ≡ None

abbrev pub IsLegOf : Lsp → Option Leg → Type 0
IsLegOf l None = Unit {0}
IsLegOf l (Some g) = g.lsp ≡ l

pub found-is : (l : Lsp) (legs : List Leg) (o : Option Leg) → find_leg l legs ≡ o → IsLegOf l o
found-is l legs None e = tt
found-is l legs (Some g) e = found-lsp l legs g e

own-nothing : (l : Lsp) → Own l nothing
own-nothing l = record { legs = tt; sent = tt; numbers = refl }

-- Path

own-at_egress : (p : LocalNode) (m : PathRequest) (link : LinkSpec) (risks : List Risk) (offered : List ℕ)
    (x : Option ℕ) →
    Own m.arrival.lsp (at_egress p m link risks offered x)
own-at_egress p m link risks offered None = own-nothing m.arrival.lsp
own-at_egress p m link risks offered (Some x) = record { legs = (refl, tt); sent = (refl, refl, tt); numbers = refl }

own-in_transit : (p : LocalNode) (s : NodeState) (m : PathRequest) (link : LinkSpec) (route : List Step)
    (o : Option LinkSpec) → Own m.arrival.lsp (in_transit p s m link route o)
own-in_transit p s m link route None = own-nothing m.arrival.lsp
own-in_transit p s m link route (Some out) =
    record { legs = (refl, tt); sent = (refl, refl, tt); numbers = refl }

own-admitted : (p : LocalNode) (s : NodeState) (m : PathRequest) (link : LinkSpec) (route : List Step) →
    Own m.arrival.lsp (admitted p s m link route)
own-admitted p s m link [] =
    own-at_egress p m link (risks_here p s m) (offered_labels p s m link) (least (offered_labels p s m link))
own-admitted p s m link (hop ∷ route) = own-in_transit p s m link route (own_link p hop.link)

own-judged : (p : LocalNode) (s : NodeState) (m : PathRequest) (link : LinkSpec) (o : Option ErrCode) →
    Own m.arrival.lsp (judged p s m link o)
own-judged p s m link (Some code) = record { legs = tt; sent = (refl, refl, tt); numbers = refl }
own-judged p s m link None = own-admitted p s m link m.route

own-first_path : (p : LocalNode) (s : NodeState) (m : PathRequest) (o : Option LinkSpec) →
    Own m.arrival.lsp (first_path p s m o)
own-first_path p s m None = own-nothing m.arrival.lsp
own-first_path p s m (Some link) =
    if_cases (Own m.arrival.lsp)
    (not (is_active m.role) && (leads (Some link) m.arrival.from p.id
    && not (nat_eq m.arrival.lsp.ingress.0 p.id.0))) _ _
    (λ h. own-judged p s m link (first_failure (checks p s m link)))
    (λ h. own-nothing m.arrival.lsp)

own-resv_to : (l : Lsp) (g : Leg) (h : Option Neighbour) (x : Option ℕ) → g.lsp ≡ l → AllSent l (resv_to g h x)
own-resv_to l g None x is = tt
own-resv_to l g (Some h) None is = tt
own-resv_to l g (Some h) (Some x) is = (is, refl, tt)

own-armed_on : (l : Lsp) (g : Leg) (route : List Step) (r : PathRole) (h : Option Neighbour) → g.lsp ≡ l →
    Own l (armed_on g route r h)
own-armed_on l g route r None is =
    record { legs = (is, tt); sent = own-resv_to l g (previous g) g.in_label is; numbers = refl }
own-armed_on l g route r (Some h) is = record { legs = (is, tt); sent = (is, refl, tt); numbers = refl }

own-taken_back : (l : Lsp) (g : Leg) (route : List Step) (r : PathRole) (h : Option Neighbour) → g.lsp ≡ l →
    Own l (puts (with_phase Held g) (taken_on g route r h))
own-taken_back l g route r None is = record { legs = (is, tt); sent = tt; numbers = refl }
own-taken_back l g route r (Some h) is = record { legs = (is, tt); sent = (is, refl, tt); numbers = refl }

own-path_again : (l : Lsp) (p : LocalNode) (s : NodeState) (a : Arrival) (route : List Step) (r : PathRole) (g : Leg) →
    g.lsp ≡ l → Own l (path_again p s a route r g)
own-path_again l p s a route (Work guard) g is = own-nothing l
own-path_again l p s a route (Back true work primary) g is =
    if_cases (Own l) (is_held g.phase && is_over (previous g) a.from a.link) _ _
    (λ h. if_cases (Own l) (is_contended s.legs g) _ _
    (λ c. record { legs = tt; sent = (is, refl, tt); numbers = refl })
    (λ c. own-armed_on l g route (Back true work primary) (following g) is))
    (λ h. own-nothing l)
own-path_again l p s a route (Back false work primary) g is =
    if_cases (Own l) (is_active_backup g && is_over (previous g) a.from a.link) _ _
    (λ h. own-taken_back l g route (Back false work primary) (following g) is)
    (λ h. own-nothing l)

own-on_path : (p : LocalNode) (s : NodeState) (m : PathRequest) (o : Option Leg) → IsLegOf m.arrival.lsp o →
    Own m.arrival.lsp (path_with p s m o)
own-on_path p s m None is = own-first_path p s m (own_link p m.arrival.link)
own-on_path p s m (Some g) is = own-path_again m.arrival.lsp p s m.arrival (drop 1 m.route) m.role g is

-- Resv

own-passed_back : (l : Lsp) (p : LocalNode) (a : Arrival) (g : Leg) (h : Neighbour) (x : ℕ) (o : Option ℕ) →
    g.lsp ≡ l → Own l (passed_back p a g h x o)
own-passed_back l p a g h x None is =
    record { legs = (is, tt); sent = (is, refl, (is, refl, tt)); numbers = refl }
own-passed_back l p a g h x (Some y) is = record { legs = (is, tt); sent = (is, refl, tt); numbers = refl }

own-leg_answers : (l : Lsp) (p : LocalNode) (s : NodeState) (a : Arrival) (x : ℕ) (g : Leg)
    (o : Option Neighbour) → g.lsp ≡ l → Own l (leg_answers p s a x g o)
own-leg_answers l p s a x g None is = record { legs = (is, tt); sent = tt; numbers = refl }
own-leg_answers l p s a x g (Some h) is = own-passed_back l p a g h x (label_through p (labels_left p s g h) x) is

own-leg_confirmed : (l : Lsp) (g : Leg) (o : Option Neighbour) → g.lsp ≡ l → Own l (leg_confirmed g o)
own-leg_confirmed l g None is = record { legs = (is, tt); sent = tt; numbers = refl }
own-leg_confirmed l g (Some h) is =
    record { legs = (is, tt); sent = own-resv_to l g (Some h) g.in_label is; numbers = refl }

own-leg_of_resv : (l : Lsp) (p : LocalNode) (s : NodeState) (a : Arrival) (x : ℕ) (o : Option Leg) →
    IsLegOf l o → Own l (leg_of_resv p s a x o)
own-leg_of_resv l p s a x None is = own-nothing l
own-leg_of_resv l p s a x (Some g) is =
    if_cases (Own l) (is_expected a x g) _ _ (λ h. own-leg_answers l p s a x g (previous g) is)
    (λ h. if_cases (Own l) (is_confirmed a x g) _ _ (λ c. own-leg_confirmed l g (previous g) is) (λ c. own-nothing l))

-- PathErr

-- a message of this LSP that isn't a Notify
pub record PassesOn (l : Lsp) (m : Msg) : Type 0 where
  pub own : lsp_of m ≡ l
  pub plain : is_notice m ≡ false

own-leg_refused : (l : Lsp) (g : Leg) (e : PathFailure) (o : Option Neighbour) → g.lsp ≡ l →
    PassesOn l e.msg → Own l (leg_refused g e o)
own-leg_refused l g e None is on = record { legs = (is, tt); sent = tt; numbers = refl }
own-leg_refused l g e (Some h) is on = record { legs = (is, tt); sent = (on.own, on.plain, tt); numbers = refl }

own-leg_removed : (l : Lsp) (g : Leg) (e : PathFailure) → g.lsp ≡ l → PassesOn l e.msg → Own l (leg_removed g e)
own-leg_removed l g e is on =
    if_cases (Own l) (is_asked g.phase) _ _ (λ h. own-leg_refused l g e (previous g) is on) (λ h.
    if_cases (Own l) (is_closing g.phase) _ _
    (λ f. record { legs = (is, tt); sent = tt; numbers = refl }) (λ f. own-nothing l))

own-leg_disarmed : (l : Lsp) (g : Leg) (m : Msg) (o : Option Neighbour) → g.lsp ≡ l → PassesOn l m →
    Own l (leg_disarmed g m o)
own-leg_disarmed l g m None is on = record { legs = (is, tt); sent = tt; numbers = refl }
own-leg_disarmed l g m (Some h) is on = record { legs = (is, tt); sent = (on.own, on.plain, tt); numbers = refl }

own-leg_contended : (l : Lsp) (g : Leg) (m : Msg) → g.lsp ≡ l → PassesOn l m → Own l (leg_contended g m)
own-leg_contended l g m is on =
    if_cases (Own l) (is_armed g.phase) _ _ (λ h. own-leg_disarmed l g m (previous g) is on) (λ h. own-nothing l)

own-leg_of_err : (l : Lsp) (u : NodeId) (e : PathFailure) (o : Option Leg) → IsLegOf l o →
    PassesOn l e.msg → Own l (leg_of_err u e o)
own-leg_of_err l u e None is on = own-nothing l
own-leg_of_err l u e (Some g) is on =
    if_cases (Own l) (is_node (following g) u) _ _
    (λ h. if_cases (Own l) e.removed _ _ (λ r. own-leg_removed l g e is on)
    (λ r. own-leg_contended l g e.msg is on))
    (λ h. own-nothing l)

-- PathTear

own-torn : (l : Lsp) (g : Leg) (to : NodeId) (m : Msg) (o : Option Neighbour) → g.lsp ≡ l → PassesOn l m →
    Own l (torn g (to_node to m) o)
own-torn l g to m None is on = record { legs = (is, tt); sent = (on.own, on.plain, tt); numbers = refl }
own-torn l g to m (Some h) is on =
    record { legs = (is, tt); sent = (on.own, on.plain, (is, refl, tt)); numbers = refl }

own-on_tear : (l : Lsp) (p : LocalNode) (a : Arrival) (o : Option Leg) → IsLegOf l o → Own l (tear_with p a o)
own-on_tear l p a None is = own-nothing l
own-on_tear l p a (Some g) is =
    if_cases (Own l) (not (is_closing g.phase) && is_over (previous g) a.from a.link) _ _
    (λ h. own-torn l g a.from (PathErr g.lsp g.egress p.id true torn_code) (following g) is
    (record { own = is; plain = refl }))
    (λ h. own-nothing l)

-- a Notify is the one message that makes Notifies
pub own-leg_part : (p : LocalNode) (s : NodeState) (u : NodeId) (m : Msg) → is_notice m ≡ false →
    Own (lsp_of m) (leg_part p s u m)
own-leg_part p s u (Path l e k route set up r) plain =
    own-on_path p s
    (record { arrival = arrival l e u k; route = route; set = set; upstream = up; role = r })
    (find_leg l s.legs) (found-is l s.legs (find_leg l s.legs) refl)
own-leg_part p s u (Resv l e k x) plain =
    own-leg_of_resv l p s (arrival l e u k) x (find_leg l s.legs) (found-is l s.legs (find_leg l s.legs) refl)
own-leg_part p s u (PathTear l e k) plain =
    own-on_tear l p (arrival l e u k) (find_leg l s.legs) (found-is l s.legs (find_leg l s.legs) refl)
own-leg_part p s u (PathErr l e at gone code) plain =
    own-leg_of_err l u
    (record { lsp = l; msg = PathErr l e at gone code; removed = gone; code = code }) (find_leg l s.legs)
    (found-is l s.legs (find_leg l s.legs) refl) (record { own = refl; plain = refl })
own-leg_part p s u (Notify l e at k code) plain = absurd (cc plain)
