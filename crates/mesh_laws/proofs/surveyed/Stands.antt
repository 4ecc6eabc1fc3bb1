-- Each leg stands at a node of the topology, and what comes in at a node is a fibre of a link that touches it.
use Rattle.std.proofs.{Common.{◌≡◌, ◌<◌, ◌≤◌, ℕ, zero, suc, Bool, true, false, cond, nat_eq, List, [], ◌∷◌, length, refl, sym, ◌∙◌, subst, arith, inl, inr, Contains}, lemmas.Option.slice_get_within, lemmas.Bool.{or_left, or_right}}
use Rattle.std.specs.{Prelude.{◌||◌, Option, Some, None}, List.AllByRecursion}
use Rattle.ason_base.specs.{Network.{IsTopology, Network, far_end, find_link, is_node_id, receiver_of, touches}, declared.ids.Fibre.Fibre, declared.ids.LinkId.LinkId, declared.ids.Lsp.Lsp, declared.ids.NodeId.NodeId, declared.network.LinkSpec.LinkSpec, declared.network.NodeSpec.NodeSpec, declared.steps.Step.Step, declared.tables.Leg.Leg}
use Rattle.ason_base.proofs.{Numbers.self-number, Finding.found-passes}
use Rattle.mesh_rules.specs.Machine.{Mesh}
use Rattle.mesh_rules.proofs.LinkNews.{HasEnds, all-ends}
use Rattle.mesh_nodes.proofs.routes.Nodes.{find-there}
use Rattle.lsp_laws.specs.{HopLaw.{LspFits, RouteFits, StepFits, leg_at}, ReportLaw.place_at}
use Rattle.lsp_laws.proofs.{hops.Law.step_at, hops.Plans.{IsPlanRoute, plan, route_made}}
use Rattle.mesh_laws.specs.Survey.{end_of}
use Rattle.mesh_laws.proofs.{alone.Facts.LspRoutes, restoration.Steps.{begins-at, ends-at, goes-on}}

-- the ends of a link are nodes
touch-node : (nodes : List NodeSpec) (l : LinkSpec) (n : NodeId) → HasEnds nodes l → touches n l ≡ true →
    is_node_id nodes n ≡ true
touch-node nodes l n ends e = go (nat_eq l.low.0 n.0) (nat_eq l.high.0 n.0) refl refl e
  where
    at : (m : NodeId) → nat_eq m.0 n.0 ≡ true → is_node_id nodes m ≡ true → is_node_id nodes n ≡ true
    at m self-number node =
        let number : m.0 ≡ n.0 = grind arith in subst (λ k. is_node_id nodes (record { 0 = k }) ≡ true) number node

    go : (a b : Bool) → nat_eq l.low.0 n.0 ≡ a → nat_eq l.high.0 n.0 ≡ b → (a || b) ≡ true → is_node_id nodes n ≡ true
    go true b p q e = at l.low p ends.low
    go false true p q e = at l.high q ends.high
    go false false p q e = absurd (cc e)

-- what holds of each holds of one of them
pub all-here : {X : Type 0} (P : X → Type 0) (xs : List X) (x : X) → Contains xs x → AllByRecursion P xs → P x
all-here P [] x (k, within, is) all = absurd (omega arith)
all-here P (y ∷ xs) x (zero, within, is) all = subst P is all.0
all-here P (y ∷ xs) x (suc k, within, is) all = all-here P xs x (k, omega arith, is) all.1

-- the end of a fibre that comes in at a node of the link
pub own-end : (l : LinkSpec) (n : NodeId) → touches n l ≡ true → end_of l (nat_eq l.high.0 n.0) ≡ n
own-end l n e = go (nat_eq l.low.0 n.0) (nat_eq l.high.0 n.0) refl refl e
  where
    node : (m : NodeId) → nat_eq m.0 n.0 ≡ true → m ≡ n
    node m self-number = (let number : m.0 ≡ n.0 = grind arith in λ i. record { 0 = number i })

    go : (a b : Bool) → nat_eq l.low.0 n.0 ≡ a → nat_eq l.high.0 n.0 ≡ b → (a || b) ≡ true → end_of l b ≡ n
    go a true p q e = node l.high q
    go true false p q e = node l.low p
    go false false p q e = absurd (cc e)

-- the fibre is one of a link of the network which touches the node
pub record Into (t : Network) (n : NodeId) (f : Fibre) : Type 0 where
  pub link : LinkSpec
  pub there : Contains t.links link
  pub number : f.link ≡ link.id
  pub touches_it : touches n link ≡ true

link-there : (t : Network) (k : LinkId) (l : LinkSpec) → find_link t k ≡ Some l → Contains t.links l
link-there t k l e = find-there (λ m. nat_eq m.id.0 k.0) t.links l e

-- a fibre that comes in at a node is such a one
pub comes-into : (t : Network) (n : NodeId) (f : Fibre) → receiver_of t f ≡ Some n → Into t n f
comes-into t n f e = go (find_link t f.link) refl e
  where
    end : (l : LinkSpec) (forward : Bool) → cond forward l.high l.low ≡ n → touches n l ≡ true
    end l true is = subst (λ m. touches m l ≡ true) is (or_right (nat_eq l.low.0 l.high.0) _ (self-number l.high.0))
    end l false is = subst (λ m. touches m l ≡ true) is (or_left (nat_eq l.low.0 l.low.0) _ (self-number l.low.0))

    go : (o : Option LinkSpec) → find_link t f.link ≡ o → far_end o f.forward ≡ Some n → Into t n f
    go None found is = absurd (cc is)
    go (Some l) found is =
        let test : nat_eq l.id.0 f.link.0 ≡ true = found-passes (λ m. nat_eq m.id.0 f.link.0) t.links l found in
        let number : f.link.0 ≡ l.id.0 = grind arith in
        record {
          link = l;
          there = link-there t f.link l found;
          number = λ i. record { 0 = number i };
          touches_it = end l f.forward (cc is);
        }

module _ (t : Network) (valid : IsTopology t) (s : Mesh) (o : LspRoutes) (hops : (l : Lsp) → LspFits t s l (o l)) where
  module _ (l : Lsp) (n : NodeId) (b : Leg) (here : leg_at s l n ≡ Some b) where
    at-link : (link : LinkSpec) (k : LinkId) → find_link t k ≡ Some link → touches n link ≡ true →
        is_node_id t.nodes n ≡ true
    at-link link k found meets =
        touch-node t.nodes link n
        (all-here (HasEnds t.nodes) t.links link (link-there t k link found) (all-ends t valid)) meets

    -- each leg stands at a node of the network
    pub placed : is_node_id t.nodes n ≡ true
    placed = go (o l) (hops l)
      where
        at : (r : _) (route : List Step) (e : NodeId) → RouteFits t s r l route e → (i : ℕ) → i ≤ length route →
            place_at route e i ≡ n → is_node_id t.nodes n ≡ true
        at r route e fits zero small is =
            let route_is : IsPlanRoute t l.ingress (plan route e) =
            route_made t l.ingress e route fits.long fits.leads in
            let over = route_is.links 0 fits.long in
            let begin : l.ingress ≡ n = sym (begins-at t l.ingress e route fits.leads fits.long) ∙ is in
            at-link over.link _ over.found (subst (λ m. touches m over.link ≡ true) (route_is.first ∙ begin)
            over.touches)
        at r route e fits (suc i) small is =
            let step = step_at route i (omega arith) in
            let its : StepFits t s r l step.0 = fits.hops i step.0 step.1 in
            let far = (goes-on t l.ingress e route fits.leads i step.0 its.link step.1 its.found).touches_far in
            at-link its.link step.0.link its.found (subst (λ m. touches m its.link ≡ true) is far)

        go : (c : Option (List Step)) → LspFits t s l c → is_node_id t.nodes n ≡ true
        go None blank = (let none = blank.legs n in absurd (cc (none, here)))
        go (Some route) (r, e, fits) = elim (fits.legs n b here) [
          | inl end ↦ at r route e fits (length route) (omega arith) (ends-at route e ∙ sym end)
          | inr (i, hop, there, is) ↦ (let below : i < length route = slice_get_within route i hop there in
              let its : StepFits t s r l hop = fits.hops i hop there in
              let on = goes-on t l.ingress e route fits.leads i hop its.link there its.found in
              at r route e fits i (omega arith) (on.near ∙ sym is))
        ]
