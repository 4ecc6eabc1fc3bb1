-- As the group fails: alarms alone are on the desks, and which cut is the nearest.
use Rattle.std.proofs.{Common.{◌≡◌, ℕ, zero, suc, ◌+◌, arith, Bool, true, false, cond, nat_eq, List, [], ◌∷◌, ◌++◌, refl, sym, ap, subst}, ByRecursion.All-append}
use Rattle.std.specs.{Prelude.{◌||◌, Option, Some, None, flat_map, slice_get}, List.AllByRecursion}
use Rattle.ason_base.specs.{Lsps.same_bool, Network.{Network, find_link}, declared.commands.Command.TheVariants.Fail, declared.commands.Group.Group, declared.ids.Fibre.Fibre, declared.ids.NodeId.NodeId, declared.network.LinkSpec.LinkSpec, declared.steps.Step.Step}
use Rattle.mesh_rules.specs.{declared.events.MeshEvent.TheVariants.Post, Events.step, Failures.{all_news, changed_news, is_cut, link_news, news, news_at, with_group}, Machine.Mesh, Quiet.IsQuiet, Reports.first_node}
use Rattle.mesh_nodes.proofs.Cases.{if_cases}
use Rattle.mesh_laws.specs.{RestorationLaw.{is_link_cut, is_route_cut}, InOrderLaw.late_to_cut, SoonLaw.hops_to_cut, Sweeps.late}
use Rattle.lsp_laws.proofs.hops.Plans.{node_at, plan}
use Rattle.mesh_laws.proofs.{soon.Delays.up_from, soon.CallsSayDown.IsDown, soon.NoneUp.{IsAlarm, NoneUp}}

-- What desks are told

told-at : (n receiver : ℕ) (f : Fibre) → AllByRecursion IsAlarm (news_at n receiver true f)
told-at n receiver f =
    if_cases (AllByRecursion IsAlarm) (nat_eq receiver n) (news true f ∷ []) [] (λ e. (tt, tt)) (λ e. tt)

told-of : (n : ℕ) (l : LinkSpec) → AllByRecursion IsAlarm (link_news n true l)
told-of n l =
    All-append IsAlarm (news_at n l.high.0 true (record { link = l.id; forward = true }))
    (news_at n l.low.0 true (record { link = l.id; forward = false }))
    (told-at n l.high.0 (record { link = l.id; forward = true }))
    (told-at n l.low.0 (record { link = l.id; forward = false }))

told-changed : (after : List Group) (n : ℕ) (l : LinkSpec) → AllByRecursion IsAlarm (changed_news [] after n l)
told-changed after n l = go (is_cut after l)
  where
    go : (b : Bool) → AllByRecursion IsAlarm (cond (same_bool false b) [] (link_news n b l))
    go true = told-of n l
    go false = tt

told-all : (after : List Group) (n : ℕ) (links : List LinkSpec) →
    AllByRecursion IsAlarm (flat_map (changed_news [] after n) links)
told-all after n [] = tt
told-all after n (l ∷ links) =
    All-append IsAlarm (changed_news [] after n l) (flat_map (changed_news [] after n) links)
    (told-changed after n l) (told-all after n links)

-- Where nothing waits and nothing has failed, a failure brings alarms alone.
pub none-up-at-first : (t : Network) (s : Mesh) (g : Group) → s.failed ≡ [] → IsQuiet s →
    NoneUp (step t s (Post (Fail g)))
none-up-at-first t s g none quiet = record {
  mail = λ u d. subst (AllByRecursion IsDown) (sym (quiet.mail u d)) tt;
  desks = λ n.
      subst (λ items. AllByRecursion IsAlarm (items ++ all_news t s.failed (with_group g s.failed) n))
      (sym (quiet.desks n))
      (subst (λ groups. AllByRecursion IsAlarm (all_news t groups (with_group g groups) n)) (sym none)
      (told-all (with_group g []) n t.links));
}

-- The nearest cut

first-node : (route : List Step) (e : NodeId) → node_at (plan route e) 0 ≡ first_node route e
first-node [] e = refl
first-node (hop ∷ route) e = refl

-- the first hop comes last on the way up
up-first : (hop : Step) (route : List Step) (e : NodeId) (i : ℕ) →
    up_from late (plan (hop ∷ route) e) (suc (suc i)) ≡
    late (node_at (plan route e) 0).0 hop.node.0 + up_from late (plan route e) (suc i)
up-first hop route e zero = omega arith
up-first hop route e (suc i) = let h = up-first hop route e i in omega (arith, h)

-- the place of the first link of the route that is cut, and the link
pub record NearestCut (t : Network) (failed : List Group) (route : List Step) : Type 0 where
  pub place : ℕ
  pub hop : Step
  pub link : LinkSpec
  pub there : slice_get route place ≡ Some hop
  pub found : find_link t hop.link ≡ Some link
  pub cut : is_cut failed link ≡ true
  pub far : suc place ≡ hops_to_cut t failed route
  pub late_hops : (e : NodeId) → up_from late (plan route e) (suc place) ≡ late_to_cut t failed e route

link-cut : (failed : List Group) (o : Option LinkSpec) → is_link_cut failed o ≡ true →
    (l : LinkSpec) × (o ≡ Some l) × (is_cut failed l ≡ true)
link-cut failed None e = absurd (cc e)
link-cut failed (Some l) e = (l, refl, e)

-- A route that is cut has one.
pub nearest-cut : (t : Network) (failed : List Group) (route : List Step) →
    is_route_cut t failed (Some route) ≡ true → NearestCut t failed route
nearest-cut t failed [] e = absurd (cc e)
nearest-cut t failed (hop ∷ route) e =
    go (is_link_cut failed (find_link t hop.link)) refl e (λ later. nearest-cut t failed route later)
  where
    go : (b : Bool) → is_link_cut failed (find_link t hop.link) ≡ b →
        (b || is_route_cut t failed (Some route)) ≡ true →
        (is_route_cut t failed (Some route) ≡ true → NearestCut t failed route) → NearestCut t failed (hop ∷ route)
    go true is e again =
        let one = link-cut failed (find_link t hop.link) is in
        record {
          place = 0;
          hop = hop;
          link = one.0;
          there = refl;
          found = one.1;
          cut = one.2;
          far = rw is refl;
          late_hops = λ e. rw (is, first-node route e) refl;
        }
    go false is e again =
        let more = again e in
        record {
          place = suc more.place;
          hop = more.hop;
          link = more.link;
          there = more.there;
          found = more.found;
          cut = more.cut;
          far = rw is (ap suc more.far);
          late_hops = λ e.
              let one = up-first hop route e more.place in let two = more.late_hops e in
              rw (is, ← first-node route e, ← two) one;
        }

-- a route that is cut is there
pub cut-route : (t : Network) (s : Mesh) (o : Option (List Step)) → is_route_cut t s.failed o ≡ true →
    (r : List Step) × (o ≡ Some r) × (is_route_cut t s.failed (Some r) ≡ true)
cut-route t s None e = absurd (cc e)
cut-route t s (Some r) e = (r, refl, e)
