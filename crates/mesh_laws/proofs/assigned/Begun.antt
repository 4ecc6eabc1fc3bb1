-- The event in which a node handles an order to set a call up, alone: its working LSP is begun, over the given route.
use Rattle.std.proofs.Common.{◌≡◌, ◌≤◌, ◌<◌, ℕ, Bool, true, false, cond, nat_eq, nat_le, nat_lt, List, [], ◌∷◌, length, refl, sym, ap, ◌∙◌, subst, arith, inl, inr}
use Rattle.std.specs.{Prelude.{◌||◌, Option, Some, None}, List.AllByRecursion}
use Rattle.mesh_rules.specs.{declared.limits.TheConstants.{LAST_NUMBER, MOST_LEGS}, declared.events.MeshEvent.TheVariants.Desk, Calls.{find_call, names}, Changes.{Answer, changed}, Events.{first_route, on_first_item, or_route, sent_at_ingress}, FirstLegs.first_link, Legs.find_leg, LocalNodes.{local_node, own_link}, Machine.{Mesh, commit, without_item}, Orders.on_item, Setups.{SetupRequest, begins, call_record}, State.NodeState}
use Rattle.ason_base.specs.{Network.{IsTopology, Network, find_link, other_end}, declared.calls.CallState.TheVariants.Asking, declared.calls.Cause.TheVariants.Unset, declared.commands.Command.TheVariants.Setup, declared.commands.DeskItem.DeskItem, declared.commands.DeskItem.TheVariants.Order, declared.ids.CallNo.CallNo, declared.ids.Lsp.Lsp, declared.ids.NodeId.NodeId, declared.network.LinkSpec.LinkSpec, declared.network.TeRow.TeRow, declared.steps.Step.Step, declared.tables.CallRec.CallRec, declared.tables.Leg.Leg}
use Rattle.ason_base.specs.declared.calls.Role.TheVariants as role
use Rattle.ason_base.proofs.{Bools.and-left, Numbers.self-number}
use Rattle.mesh_rules.proofs.Topologies.{topology_searchable}
use Rattle.mesh_nodes.proofs.{CallList.{all-with_call, find-with_call}, LegList.same_lsp-refl, routes.Nodes.found-link}
use Rattle.lsp_laws.specs.HopLaw.{leg_at}
use Rattle.lsp_laws.proofs.{nodes.CallParts.named-by, nodes.Facts.MeshFacts, hops.NamedPhases.named_is}
use Rattle.mesh_laws.specs.{CauseLaw.IsLinkAt, RetryLaw.NoneWaits, SetupAloneLaw.AreWavelengths}
use Rattle.mesh_laws.proofs.{assigned.Free.{WellMesh, well-commit}, assigned.Only.only-on, assigned.Tracks.{IsAsking, Tracks}, assigned.Setting.Setting, assigned.Well.{OneLeg, WellMsg}, causes.KeptOff.{has-up, own-link-at}, retried.Going.put-there, retried.Pending.{IsTimeless, Pending, desks-empty, timeless}}

abbrev pub order_of : CallNo → NodeId → NodeId → List Step → DeskItem
order_of k n to route = Order (Setup k n to false false (Some route) None)

abbrev request : CallNo → NodeId → NodeId → List Step → SetupRequest
request k n to route =
    record { call = k; from = n; egress = to; protected = false; both = false; via = Some route; backup = None }

-- the LSP that the node gives out next
abbrev pub next_of : Mesh → NodeId → Lsp
next_of s n = record { ingress = n; tunnel = (s.nodes n.0).tunnel; lsp = (s.nodes n.0).lsp }

none-spent : (a b : ℕ) → a ≤ LAST_NUMBER → b ≤ LAST_NUMBER → (nat_lt LAST_NUMBER a || nat_lt LAST_NUMBER b) ≡ false
none-spent a b few less =
    let one : nat_lt LAST_NUMBER a ≡ false = grind arith in
    let two : nat_lt LAST_NUMBER b ≡ false = grind arith in
    rw (one, two) refl

none-full : (a : ℕ) → a < MOST_LEGS → nat_le MOST_LEGS a ≡ false
none-full a less = grind arith

module _ (t : Network) (valid : IsTopology t) (s : Mesh) (facts : MeshFacts t s) (k : CallNo) (n to : NodeId)
    (hop : Step) (further : List Step) (out : LinkSpec) (first : first_link (local_node t n) (hop ∷ further) ≡ Some out)
    (over : own_link (local_node t n) hop.link ≡ Some out) (at_n : hop.node ≡ n) (away : nat_eq to.0 n.0 ≡ false)
    (new : find_call k (s.nodes n.0).calls ≡ None) (lsp : (s.nodes n.0).lsp ≤ LAST_NUMBER)
    (tunnel : (s.nodes n.0).tunnel ≤ LAST_NUMBER)
    (room : length (s.nodes n.0).legs < MOST_LEGS) where
  abbrev l : Lsp
  l = next_of s n

  abbrev item : DeskItem
  item = order_of k n to (hop ∷ further)

  -- it is begun
  begun : (rows : List TeRow) → on_item (local_node t n) (record (s.nodes n.0) { learnt = rows }) (order_of k n to (hop ∷ further))
      ≡ begins (local_node t n) (record (s.nodes n.0) { learnt = rows }) (request k n to (hop ∷ further)) out further
  begun rows =
      let spent = none-spent (s.nodes n.0).lsp (s.nodes n.0).tunnel lsp tunnel in
      let full = none-full (length (s.nodes n.0).legs) room in
      rw (new, self-number n.0, away, first, spent, full) refl

  abbrev answer : List TeRow → Answer
  answer rows = begins (local_node t n) (record (s.nodes n.0) { learnt = rows }) (request k n to (hop ∷ further)) out further

  abbrev asks : CallRec
  asks = call_record (request k n to (hop ∷ further)) Asking (Some (next_of s n)) Unset

  pub unnamed : (m : CallNo) (c : CallRec) → find_call m (s.nodes n.0).calls ≡ Some c → names (next_of s n) c ≡ true → ⊥
  unnamed m c found named =
      let fit = (facts.node n.0).call m c found in
      elim (named-by c l named) [
        | inl work ↦ (let named = named_is n.0 (s.nodes n.0).lsp (s.nodes n.0).legs role.Work c.egress c.work l fit.work work in
            let less = named.number in omega (arith, less))
        | inr back ↦ (let named = named_is n.0 (s.nodes n.0).lsp (s.nodes n.0).legs role.Back c.egress c.back l fit.back back in
            let less = named.number in omega (arith, less))
      ]

  module _ (now : Mesh) (pending : Pending s n (order_of k n to (hop ∷ further)) now) where
    abbrev rows_now : List TeRow
    rows_now = (now.nodes n.0).learnt

    handled : on_item (local_node t n) (now.nodes n.0) (order_of k n to (hop ∷ further)) ≡ answer (now.nodes n.0).learnt
    handled =
        ap (λ (x : NodeState). on_item (local_node t n) x (order_of k n to (hop ∷ further))) (pending.nodes n.0)
        ∙ begun (now.nodes n.0).learnt

    same-calls : (m : ℕ) → (now.nodes m).calls ≡ (s.nodes m).calls
    same-calls m = ap (λ (x : NodeState). x.calls) (pending.nodes m)

    setting-of : (R : Type 0) → Setting R t s (next_of s n) k n (commit (without_item now n.0) n.0 (answer (now.nodes n.0).learnt))
    setting-of R = record {
      only = only-on s l (without_item now n.0) n (answer rows_now) (record {
        others = λ j m apart. ap (λ (x : NodeState). find_leg j x.legs) (pending.nodes m.0);
        mail = λ u d. subst (AllByRecursion _) (sym (pending.mail u d)) tt;
      }) (record { legs = (refl, tt); sent = (refl, refl, tt) });
      tracks = tracks (nat_eq n.0 n.0) (self-number n.0);
      waits = λ none m. waits none m (nat_eq m n.0);
      desks = desks-empty t s n item now pending;
    }
      where
        only : (m : CallNo) (c : CallRec) → names l c ≡ true → (b : Bool) → nat_eq k.0 m.0 ≡ b →
            cond b (Some asks) (find_call m (now.nodes n.0).calls) ≡ Some c → c ≡ asks
        only m c named true e is = sym (cc is)
        only m c named false e is = absurd (unnamed m c (ap (find_call m) (sym (same-calls n.0)) ∙ is) named)

        tracks : (b : Bool) → b ≡ true → Tracks R l k (cond b (changed (now.nodes n.0) (answer rows_now)) (now.nodes n.0)).calls
        tracks true e = record {
          call = asks;
          found = put-there k asks (now.nodes n.0).calls refl;
          plain = IsAsking;
          unprotected = refl;
          alone = refl;
          work = inr refl;
          only = λ m c found named. only m c named (nat_eq k.0 m.0) refl (sym (find-with_call asks (now.nodes n.0).calls m) ∙ found);
        }
        tracks false e = absurd (cc e)

        never : (wait : ℕ) → IsTimeless wait asks
        never wait waits = cc waits.1

        waits : NoneWaits t s → (m : ℕ) (b : Bool) →
            AllByRecursion (IsTimeless t.wait) (cond b (changed (now.nodes m) (answer rows_now)) (now.nodes m)).calls
        waits none m true =
            all-with_call (IsTimeless t.wait) asks (now.nodes m).calls (never t.wait) (timeless t s n item now pending none m)
        waits none m false = timeless t s n item now pending none m

    -- the LSP is sent on the route
    pub sent-route : (later : Option (List Step)) →
        or_route (first_route (next_of s n) (sent_at_ingress t now (Desk n) (next_of s n))) later ≡ Some (hop ∷ further)
    sent-route later =
        let at = own-link-at t n hop.link out over in
        let sent : sent_at_ingress t now (Desk n) l ≡ (answer rows_now).sent =
        ap (λ b. cond b (on_first_item (local_node t n) (now.nodes n.0) (now.desks n.0)).sent []) (self-number n.0)
        ∙ ap (λ items. (on_first_item (local_node t n) (now.nodes n.0) items).sent) pending.here
        ∙ ap (λ (a : Answer). a.sent) handled in
        let step : record { node = n; link = out.id } ≡ hop = (λ i. record { node = sym at_n i; link = at.id i }) in
        ap (λ outs. or_route (first_route l outs) later) sent
        ∙ ap (λ b. or_route (or_route (cond b (Some (record { node = n; link = out.id } ∷ further)) None) None) later) (same_lsp-refl l)
        ∙ ap (λ (h : Step). Some (h ∷ further)) step

    pub setting-begins : (R : Type 0) → Setting R t s (next_of s n) k n
        (commit (without_item now n.0) n.0 (on_item (local_node t n) (now.nodes n.0) (order_of k n to (hop ∷ further))))
    setting-begins R =
        subst (λ a. Setting R t s l k n (commit (without_item now n.0) n.0 a)) (sym handled) (setting-of R)

    -- and in order
    pub well-begins : ((d : NodeId) (g : Leg) → leg_at s (next_of s n) d ≡ Some g → ⊥) → (x : ℕ → ℕ) →
        AreWavelengths t s (hop ∷ further) x → WellMesh t s (next_of s n) (hop ∷ further) x
        (commit (without_item now n.0) n.0 (on_item (local_node t n) (now.nodes n.0) (order_of k n to (hop ∷ further))))
    well-begins fresh x fits =
        subst (λ a. WellMesh t s l (hop ∷ further) x (commit (without_item now n.0) n.0 a)) (sym handled)
        (well-commit t s l (hop ∷ further) x (without_item now n.0) (record {
          mail = λ u d. subst (AllByRecursion (WellMsg t (hop ∷ further) x (record { 0 = d }))) (sym (pending.mail u d)) tt;
          legs = λ m g here. absurd (fresh m g (ap (λ (y : NodeState). find_leg l y.legs) (sym (pending.nodes m.0)) ∙ here));
          else_same = record {
            legs = λ m none. ap (λ (y : NodeState). y.legs) (pending.nodes m.0);
            down = λ m. ap (λ (y : NodeState). y.down) (pending.nodes m);
          };
        }) n (answer rows_now) (record {
          leg = OneLeg _ refl (record { work = refl; phase = inl refl; one_way = refl; offers = λ asked f at. absurd (cc at) });
          sent = (
            (
              refl,
              record {
                place = 0;
                hop = hop;
                link = out;
                there = refl;
                found = found;
                over = sym at.id;
                far = ap (other_end out) at_n;
                left = refl;
                among = has-up out.labels (x 0) (fits.each 0 hop out refl found).low (fits.each 0 hop out refl found).high;
              },
            ),
            tt,
          );
        }) refl)
      where
        at : IsLinkAt t n hop.link out
        at = own-link-at t n hop.link out over

        found : find_link t hop.link ≡ Some out
        found =
            subst (λ i. find_link t i ≡ Some out) at.id (found-link t.links out (and-left _ _ (topology_searchable t valid)) at.there)
