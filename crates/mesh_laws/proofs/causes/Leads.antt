-- The rest of the route of a Path that comes leads on from there.
use Rattle.std.proofs.{Common.{◌≡◌, ◌≢◌, ◌<◌, ◌≤◌, ℕ, zero, suc, Bool, true, false, cond, nat_eq, List, [], ◌∷◌, length, refl, sym, ap, ◌∙◌, subst, arith, inl, inr}, lemmas.Option.slice_get_past, lemmas.Bool.cases_lt}
use Rattle.std.specs.Prelude.{◌⊎◌, ◌||◌, Option, Some, drop, slice_get, IsTrue}
use Rattle.ason_base.specs.{Network.{Network, find_link, other_end, touches}, declared.ids.LinkId.LinkId, declared.ids.Lsp.Lsp, declared.ids.NodeId.NodeId, declared.messages.Msg.Msg, declared.messages.Msg.TheVariants.Path, declared.messages.PathRole.PathRole, declared.network.LinkSpec.LinkSpec, declared.steps.Step.Step}
use Rattle.ason_base.proofs.{Numbers.self-number, JoinedEnds.same-node}
use Rattle.mesh_rules.specs.Machine.{Mesh}
use Rattle.mesh_nodes.proofs.LegList.{same_lsp-refl}
use Rattle.lsp_laws.proofs.{hops.Law.step_at, hops.OnHops.{Down, OnHop, Up, on_hop}, hops.Planned.{EachFollows, Routes}, hops.Plans.{IsPlanRoute, Plan, distinct, hops, link_at, node_at}, hops.Purposes.{DownFits, Each, UpFits}}

-- the route that is left at d, over the link k, ends there just where d is the LSP's egress; else its first step is
-- d's, over another link of d
abbrev pub RouteLeadsOn : Network → NodeId → NodeId → LinkId → List Step → Type 0
RouteLeadsOn t d e k [] = d ≡ e
RouteLeadsOn t d e k (hop ∷ route) =
    (d ≢ e) × (hop.node ≡ d) × (hop.link ≢ k) × (link : LinkSpec) × (find_link t hop.link ≡ Some link)
    × IsTrue (touches d link)

drop-at : {X : Type 0} (j : ℕ) (xs : List X) (x : X) → slice_get xs j ≡ Some x → drop j xs ≡ x ∷ drop (suc j) xs
drop-at j [] x e = absurd (cc e)
drop-at zero (y ∷ xs) x e = (let one : y ≡ x = cc e in ap (λ z. z ∷ xs) one)
drop-at (suc j) (y ∷ xs) x e = drop-at j xs x e

drop-all : {X : Type 0} (xs : List X) → drop (length xs) xs ≡ []
drop-all [] = refl
drop-all (x ∷ xs) = drop-all xs

-- over a link and back
back-again : (l : LinkSpec) (n : NodeId) → touches n l ≡ true → other_end l (other_end l n) ≡ n
back-again l n on = go (nat_eq l.low.0 n.0) (nat_eq l.high.0 n.0) refl refl on
  where
    at_low : (c : Bool) → nat_eq l.low.0 l.high.0 ≡ c → l.low ≡ n → cond c l.high l.low ≡ n
    at_low true e is = (let number : l.high.0 ≡ l.low.0 = grind arith in same-node l.high l.low number ∙ is)
    at_low false e is = is

    go : (a b : Bool) → nat_eq l.low.0 n.0 ≡ a → nat_eq l.high.0 n.0 ≡ b → (a || b) ≡ true →
        other_end l (cond a l.high l.low) ≡ n
    go true b low high on =
        (let number : l.low.0 ≡ n.0 = grind arith in
        at_low (nat_eq l.low.0 l.high.0) refl (same-node l.low n number))
    go false true low high on =
        (let number : l.high.0 ≡ n.0 = grind arith in
        ap (λ c. cond c l.high l.low) (self-number l.low.0) ∙ same-node l.high n number)
    go false false low high on = absurd (cc on)

module _ (t : Network) (from : NodeId) (p : Plan) (route : IsPlanRoute t from p) (i : ℕ) (small : i < hops p) where
  -- two steps after each other go over different links
  links-differ : suc i < hops p → link_at p (suc i) ≡ link_at p i → ⊥
  links-differ more one =
      let here = route.links i small in
      let next = route.links (suc i) more in
      let links : here.link ≡ next.link =
      (let x = here.found in let y = next.found in let z : find_link t (link_at p (suc i)) ≡ Some here.link =
      ap (find_link t) one ∙ x in cc (y, z)) in
      let round : node_at p (suc (suc i)) ≡ node_at p i =
      sym next.far ∙ ap (λ k. other_end k (node_at p (suc i))) (sym links)
      ∙ ap (other_end here.link) (sym here.far) ∙ back-again here.link (node_at p i) here.touches in
      distinct t from p route (suc (suc i)) i (omega (arith, more)) (omega (arith, small)) (omega arith)
      (ap (λ (n : NodeId). n.0) round)

  last-is : node_at p (hops p) ≡ p.egress
  last-is = rw (slice_get_past p.route (length p.route) (omega arith)) refl

  pub leads-on : RouteLeadsOn t (node_at p (suc i)) p.egress (link_at p i) (drop (suc i) p.route)
  leads-on = go (cases_lt (suc i) (hops p))
    where
      go : (suc i < hops p) ⊎ (hops p ≤ suc i) →
          RouteLeadsOn t (node_at p (suc i)) p.egress (link_at p i) (drop (suc i) p.route)
      go (inr last) =
          let is : suc i ≡ hops p = omega (arith, last, small) in
          subst (λ r. RouteLeadsOn t (node_at p (suc i)) p.egress (link_at p i) r)
          (sym (ap (λ j. drop j p.route) is ∙ drop-all p.route))
          (ap (node_at p) is ∙ last-is)
      go (inl more) =
          let step = step_at p.route (suc i) more in
          let there = step.1 in
          let next = route.links (suc i) more in
          let node : node_at p (suc i) ≡ step.0.node = rw there refl in
          let link : link_at p (suc i) ≡ step.0.link = rw there refl in
          subst (λ r. RouteLeadsOn t (node_at p (suc i)) p.egress (link_at p i) r)
          (sym (drop-at (suc i) p.route step.0 step.1)) (
            λ is. distinct t from p route (suc i) (hops p) (omega (arith, more)) (omega arith) (omega (arith, more))
                (ap (λ (n : NodeId). n.0) (is ∙ sym last-is)),
            sym node,
            λ is. links-differ more (link ∙ is),
            next.link,
            ap (find_link t) (sym link) ∙ next.found,
            next.touches,
          )

-- what is left of a Path's route leads on from where it comes to
pub path-leads : (t : Network) (s : Mesh) (o : Routes) → EachFollows t s o → (u d e : NodeId) (l : Lsp) (k : LinkId)
    (route : List Step) (set : List ℕ) (up : Option ℕ) (r : PathRole) (ms : List Msg) →
    s.mail u.0 d.0 ≡ Path l e k route set up r ∷ ms → RouteLeadsOn t d e k route
path-leads t s o f u d e l k route set up r ms first =
    go _ (on_hop t s o l u d (Path l e k route set up r) ms first (same_lsp-refl l) f) refl
  where
    go : (more : List Msg) → OnHop t s o l u d (Path l e k route set up r ∷ more) → more ≡ more →
        RouteLeadsOn t d e k route
    go more (Down q p planned i small u_is d_is mail) same_list =
        let all : Each (DownFits q p i) (Path l e k route set up r ∷ more) =
        subst (Each (DownFits q p i)) mail (planned.chain.each i small).rest.going_down in
        let fits = all.0 in
        subst (λ n. RouteLeadsOn t n e k route) (sym d_is)
        (subst (λ n. RouteLeadsOn t (node_at p (suc i)) n k route) (sym fits.0)
        (subst (λ j. RouteLeadsOn t (node_at p (suc i)) p.egress j route) (sym fits.1)
        (subst (λ x. RouteLeadsOn t (node_at p (suc i)) p.egress (link_at p i) x) (sym fits.2)
        (leads-on t l.ingress p planned.route i small))))
    go more (Up q p planned i small u_is d_is mail) same_list =
        let all : Each (UpFits p i) (Path l e k route set up r ∷ more) =
        subst (Each (UpFits p i)) mail (planned.chain.each i small).rest.going_up in
        absurd all.0
