-- The hop of its route over which a leg sends a label on a fibre: onward to the next node, or back to the previous one.
use Rattle.std.proofs.{Common.{◌≡◌, ◌≢◌, ◌<◌, ◌≤◌, ℕ, zero, suc, true, List, refl, sym, ap, subst, ◌∙◌, arith, inl, inr}, lemmas.Option.same_Some, lemmas.Bool.{or_cases, cases_lt}}
use Rattle.std.specs.Prelude.{◌⊎◌, Option, Some, None}
use Rattle.ason_base.specs.{Network.{Network, receiver_of, sender_of}, declared.ids.Fibre.Fibre, declared.ids.Lsp.Lsp, declared.ids.NodeId.NodeId, declared.messages.Msg.Msg, declared.tables.Leg.Leg}
use Rattle.ason_base.proofs.JoinedEnds.{same-node}
use Rattle.mesh_rules.specs.Legs.{is_at, reverse, reverse_of, sends_label}
use Rattle.mesh_nodes.proofs.LabelPlaces.{at-is}
use Rattle.lsp_laws.proofs.{hops.Chain.{Chain, IsPlace, LegFitsPlan, in_fibre_at, out_fibre_at}, hops.Plans.{Plan, IsPlanRoute, distinct, fibre_at, hops, lt_false, lt_true, node_at}, hops.Purposes.Purpose}
use Rattle.mesh_laws.proofs.sent.Ends.{receiver-at, receiver-back, sender-at, sender-back}

-- a fibre out is that of the place's hop
pub out-place : (t : Network) (p : Plan) (i : ℕ) (f : Fibre) → out_fibre_at t p i ≡ Some f →
    (i < hops p) × (fibre_at t p i ≡ f)
out-place t p i f e = go (cases_lt i (hops p)) e
  where
    go : (i < hops p) ⊎ (hops p ≤ i) → out_fibre_at t p i ≡ Some f → (i < hops p) × (fibre_at t p i ≡ f)
    go (inl small) e = let is : Some (fibre_at t p i) ≡ Some f = rw (lt_true small) at e in (small, cc is)
    go (inr end) e = let is : ◌≡◌ {A = Option Fibre} None (Some f) = rw (lt_false end) at e in absurd (cc is)

-- and its reverse leads back to that place
pub back-place : (t : Network) (p : Plan) (i : ℕ) (f : Fibre) → reverse_of (out_fibre_at t p i) ≡ Some f →
    (i < hops p) × (reverse (fibre_at t p i) ≡ f)
back-place t p i f e = go (cases_lt i (hops p)) e
  where
    go : (i < hops p) ⊎ (hops p ≤ i) → reverse_of (out_fibre_at t p i) ≡ Some f →
        (i < hops p) × (reverse (fibre_at t p i) ≡ f)
    go (inl small) e =
        let is : Some (reverse (fibre_at t p i)) ≡ Some f = rw (lt_true small) at e in (small, same_Some _ _ is)
    go (inr end) e = let is : ◌≡◌ {A = Option Fibre} None (Some f) = rw (lt_false end) at e in absurd (cc is)

module _ (t : Network) (q : Purpose) (l : Lsp) (p : Plan) (from : NodeId) (route : IsPlanRoute t from p)
    (leg : NodeId → Option Leg) (mail : NodeId → NodeId → List Msg) (chain : Chain t q l p leg mail) where
  pub near : (i : ℕ) → i < hops p → (node_at p i).0 ≢ (node_at p (suc i)).0
  near i small = distinct t from p route i (suc i) (omega arith) (omega arith) (omega arith)

  pub receiver_here : (i : ℕ) → i < hops p → receiver_of t (fibre_at t p i) ≡ Some (node_at p (suc i))
  receiver_here i small = receiver-at t p i (near i small) (route.links i small)

  pub receiver_there : (i : ℕ) → i < hops p → receiver_of t (reverse (fibre_at t p i)) ≡ Some (node_at p i)
  receiver_there i small = receiver-back t p i (near i small) (route.links i small)

  -- the leg of u has the label out, and to is the next node
  pub record SendsOnward (f : Fibre) (x : ℕ) (u to : NodeId) (g : Leg) : Type 0 where
    pub place : ℕ
    pub small : place < hops p
    pub here : u ≡ node_at p place
    pub there : to ≡ node_at p (suc place)
    pub fibre : fibre_at t p place ≡ f
    pub label : g.out_label ≡ Some x

  -- it has the back label out, and to is the previous one
  pub record SendsBack (f : Fibre) (x : ℕ) (u to : NodeId) (g : Leg) : Type 0 where
    pub place : ℕ
    pub small : place < hops p
    pub here : u ≡ node_at p (suc place)
    pub there : to ≡ node_at p place
    pub fibre : reverse (fibre_at t p place) ≡ f
    pub enters : g.in_fibre ≡ Some (fibre_at t p place)
    pub label : g.back_out ≡ Some x

  -- so the fibre leads from u to that node
  pub record SendsOver (f : Fibre) (x : ℕ) (u : NodeId) (g : Leg) : Type 0 where
    pub to : NodeId
    pub apart : u.0 ≢ to.0
    pub sender : sender_of t f ≡ Some u
    pub receiver : receiver_of t f ≡ Some to
    pub way : SendsOnward f x u to g ⊎ SendsBack f x u to g

  module _ (f : Fibre) (x : ℕ) (u : NodeId) (g : Leg) where
    over_next : (i : ℕ) → u ≡ node_at p i → LegFitsPlan t q l p i g → is_at g.out_fibre g.out_label f x ≡ true →
        SendsOver f x u g
    over_next i is fits on =
        let at_f = at-is g.out_fibre g.out_label f x on in
        let out = out-place t p i f (sym fits.out_fibre ∙ at_f.0) in
        let small = out.0 in
        record {
          to = node_at p (suc i);
          apart = λ same. near i small (sym (ap (λ n. n.0) is) ∙ same);
          sender = subst (λ h. sender_of t h ≡ Some u) out.1
              (sender-at t p i (near i small) (route.links i small) ∙ ap Some (sym is));
          receiver = subst (λ h. receiver_of t h ≡ Some (node_at p (suc i))) out.1 (receiver_here i small);
          way = inl (record { place = i; small = small; here = is; there = refl; fibre = out.1; label = at_f.1 });
        }

    over_previous : (i : ℕ) → i ≤ hops p → u ≡ node_at p i → LegFitsPlan t q l p i g →
        is_at (reverse_of g.in_fibre) g.back_out f x ≡ true → SendsOver f x u g
    over_previous i small is fits on =
        go i small is fits.in_fibre (subst (λ o. reverse_of o ≡ Some f) fits.in_fibre at_f.0)
      where
        at_f : (reverse_of g.in_fibre ≡ Some f) × (g.back_out ≡ Some x)
        at_f = at-is (reverse_of g.in_fibre) g.back_out f x on

        go : (i : ℕ) → i ≤ hops p → u ≡ node_at p i → g.in_fibre ≡ in_fibre_at t p i →
            reverse_of (in_fibre_at t p i) ≡ Some f → SendsOver f x u g
        go zero small is enters back = absurd (cc back)
        go (suc i) small is enters back =
            let fibre : reverse (fibre_at t p i) ≡ f = same_Some _ _ back in
            let below : i < hops p = omega arith in
            record {
              to = node_at p i;
              apart = λ same. near i below (sym same ∙ ap (λ n. n.0) is);
              sender = subst (λ h. sender_of t h ≡ Some u) fibre
                  (sender-back t p i (near i below) (route.links i below) ∙ ap Some (sym is));
              receiver = subst (λ h. receiver_of t h ≡ Some (node_at p i)) fibre (receiver_there i below);
              way = inr (record {
                place = i;
                small = below;
                here = is;
                there = refl;
                fibre = fibre;
                enters = enters;
                label = at_f.1;
              });
            }

    -- each leg that sends has such a hop
    pub sends-over : leg u ≡ Some g → sends_label f x g ≡ true → SendsOver f x u g
    sends-over e sent = on (chain.legs u)
      where
        on : (leg u ≡ None) ⊎ IsPlace p u → SendsOver f x u g
        on (inl none) = absurd (cc (none, e))
        on (inr (i, small, at_u)) =
            let is : u ≡ node_at p i = same-node u (node_at p i) at_u in
            let there : leg (node_at p i) ≡ Some g = subst (λ n. leg n ≡ Some g) is e in
            let fits : LegFitsPlan t q l p i g = rw there at (chain.fits i small) in
            elim (or_cases (is_at g.out_fibre g.out_label f x) _ sent) [
              | inl onward ↦ over_next i is fits onward
              | inr back ↦ over_previous i small is fits back
            ]
