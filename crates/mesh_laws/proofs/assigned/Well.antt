-- Where a route has wavelengths that are free, no node refuses the Path of a new working LSP, nor finds none for its Resv.
use Rattle.std.proofs.Common.{◌≡◌, ◌<◌, ℕ, zero, suc, Bool, true, false, cond, nat_eq, not, List, [], ◌∷◌, drop, length, refl, sym, ap, ◌∙◌, subst, arith, inl, inr, Contains}
use Rattle.std.specs.{Prelude.{◌⊎◌, ◌&&◌, Option, Some, None, slice_get}, List.AllByRecursion}
use Rattle.mesh_rules.specs.{declared.limits.TheConstants.MOST_LEGS, declared.changes.LegChange.LegChange, declared.changes.LegChange.TheVariants.Put, Changes.{Answer, nothing}, Legs.usable, LocalNodes.{LocalNode, converts, fibre_in, leads, local_node, own_link}, Machine.Mesh, Messages.arrival, Paths.{PathRequest, admitted, at_egress, checks, first_failure, first_path, in_transit, judged, offered_labels, path_with}, State.NodeState}
use Rattle.ason_base.specs.{Labels.{has, least, meet, up_to}, Network.{IsTopology, Network, find_link, find_node, other_end}, declared.calls.Phase.TheVariants.{Asked, Live}, declared.calls.Role.Role, declared.codes.ErrCode.ErrCode, declared.ids.Fibre.Fibre, declared.ids.LinkId.LinkId, declared.ids.Lsp.Lsp, declared.ids.NodeId.NodeId, declared.messages.Msg.Msg, declared.messages.Msg.TheVariants.{Path, Resv, PathTear, PathErr, Notify}, declared.messages.PathRole.TheVariants.{Work, Back}, declared.network.LinkSpec.LinkSpec, declared.steps.Step.Step, declared.tables.Leg.Leg}
use Rattle.ason_base.specs.declared.calls.Role.TheVariants as role
use Rattle.ason_base.proofs.{MaskMembers.has-filter, Bools.{and-left, and-right}}
use Rattle.mesh_rules.proofs.Topologies.{topology_searchable}
use Rattle.mesh_nodes.proofs.{Cases.if_cases, routes.Nodes.found-link}
use Rattle.lsp_laws.specs.HopLaw.{leg_at}
use Rattle.lsp_laws.proofs.nodes.Facts.{MeshFacts}
use Rattle.mesh_laws.specs.{CauseLaw.{ComesDown, HasCause, HasNoLabel, HasNoWayBack, IsFull, IsLinkAt, IsUnknown, KeepsOff}, SetupAloneLaw.{AreWavelengths, MayHave}}
use Rattle.mesh_laws.proofs.{assigned.Kept.{kept-now, kept-then, usable-so}, assigned.Only.OnlyOf, causes.KeptOff.{has-up, kept-off, own-link-at, unusable}, causes.Leads.RouteLeadsOn, causes.Refused.cause-of}

-- What is under way

-- a Path comes to d over the link k of the route, with these steps left, and the wavelength there is one of its labels
pub record AtHop (t : Network) (route : List Step) (x : ℕ → ℕ) (d : NodeId) (k : LinkId) (rest : List Step)
    (set : List ℕ) : Type 0 where
  pub place : ℕ
  pub hop : Step
  pub link : LinkSpec
  pub there : slice_get route place ≡ Some hop
  pub found : find_link t hop.link ≡ Some link
  pub over : hop.link ≡ k
  pub far : other_end link hop.node ≡ d
  pub left : rest ≡ drop (suc place) route
  pub among : has set (x place) ≡ true

abbrev pub WellMsg : Network → List Step → (ℕ → ℕ) → NodeId → Msg → Type 0
WellMsg t route x d (Path l e k rest set up (Work guard)) = (up ≡ None) × AtHop t route x d k rest set
WellMsg t route x d (Path l e k rest set up (Back active work primary)) = ⊥
WellMsg t route x d (Resv l e k y) = Unit {0}
WellMsg t route x d (PathTear l e k) = ⊥
WellMsg t route x d (PathErr l e at gone code) = ⊥
WellMsg t route x d (Notify l e at k code) = ⊥

-- a leg that is asked at m, over this fibre: each label that it was offered is free, and there is one
pub record Offers (t : Network) (s : Mesh) (m : NodeId) (g : Leg) (f : Fibre) : Type 0 where
  pub link : LinkSpec
  pub fibre : f ≡ fibre_in link m
  pub own : own_link (local_node t m) link.id ≡ Some link
  pub free : (y : ℕ) → has g.offered y ≡ true → MayHave s link m y
  pub some : (y : ℕ) × (has g.offered y ≡ true)
  pub same : (local_node t m).convert ≡ false → g.sent ≡ g.offered

-- a leg of the LSP
pub record WellLeg (t : Network) (s : Mesh) (m : NodeId) (g : Leg) : Type 0 where
  pub work : g.role ≡ role.Work
  pub phase : (g.phase ≡ Asked) ⊎ (g.phase ≡ Live)
  pub one_way : g.back_in ≡ None
  pub offers : g.phase ≡ Asked → (f : Fibre) → g.in_fibre ≡ Some f → Offers t s m g f

pub data LegWell (t : Network) (s : Mesh) (l : Lsp) (m : NodeId) : List LegChange → Type 0 where
  NoLeg : LegWell t s l m []
  OneLeg : (g : Leg) → g.lsp ≡ l → WellLeg t s m g → LegWell t s l m (Put g ∷ [])

pub record WellAnswer (t : Network) (s : Mesh) (l : Lsp) (route : List Step) (x : ℕ → ℕ) (m : NodeId) (a : Answer) :
    Type 0 where
  pub leg : LegWell t s l m a.legs
  pub sent : AllByRecursion (λ o. WellMsg t route x o.to o.msg) a.sent

-- what hasn't changed since: nodes without a leg of the LSP, and what is known to be down
pub record SameElse (s : Mesh) (l : Lsp) (now : Mesh) : Type 0 where
  pub legs : (m : NodeId) → leg_at now l m ≡ None → (now.nodes m.0).legs ≡ (s.nodes m.0).legs
  pub down : (m : ℕ) → (now.nodes m).down ≡ (s.nodes m).down

drop-next : {X : Type 0} (j : ℕ) (xs : List X) (y : X) (ys : List X) → y ∷ ys ≡ drop j xs →
    (slice_get xs j ≡ Some y) × (ys ≡ drop (suc j) xs)
drop-next zero [] y ys e = absurd (cc e)
drop-next zero (z ∷ xs) y ys e = ((let one : y ≡ z = cc e in ap Some (sym one)), (cc e))
drop-next (suc j) [] y ys e = absurd (cc e)
drop-next (suc j) (z ∷ xs) y ys e = drop-next j xs y ys e

-- the place that a route of wavelengths gives
module _ (t : Network) (valid : IsTopology t) (s : Mesh) (facts_then : MeshFacts t s) (l : Lsp)
    (new : (d : NodeId) (g : Leg) → leg_at s l d ≡ Some g → ⊥) (route : List Step) (x : ℕ → ℕ)
    (fits : AreWavelengths t s route x)
    (up : (i : ℕ) (hop : Step) (link : LinkSpec) → slice_get route i ≡ Some hop → find_link t hop.link ≡ Some link →
    Contains (s.nodes (other_end link hop.node).0).down (fibre_in link (other_end link hop.node)) → ⊥)
    (room : (m : ℕ) → length (s.nodes m).legs < MOST_LEGS) (now : Mesh) (facts : MeshFacts t now)
    (only : OnlyOf s l now)
    (else_same : SameElse s l now) (d : NodeId) where
  abbrev p : LocalNode
  p = local_node t d

  abbrev z : NodeState
  z = now.nodes d.0

  well-nothing : WellAnswer t s l route x d nothing
  well-nothing = record { leg = NoLeg; sent = tt }

  -- A Path

  module _ (u e : NodeId) (k : LinkId) (rest : List Step) (set : List ℕ) (guard : Bool) (at : AtHop t route x d k rest set)
      (onward : RouteLeadsOn t d e k rest) (none : leg_at now l d ≡ None) (link : LinkSpec)
      (own : own_link (local_node t d) k ≡ Some link) where
    abbrev m : PathRequest
    m = record { arrival = arrival l e u k; route = rest; set = set; upstream = None; role = Work guard }

    its : IsLinkAt t d k link
    its = own-link-at t d k link own

    one-link : at.link ≡ link
    one-link =
        let here : find_link t link.id ≡ Some link = found-link t.links link (and-left _ _ (topology_searchable t valid)) its.there in
        let same : at.hop.link ≡ link.id = at.over ∙ sym its.id in
        let found : find_link t link.id ≡ Some at.link = subst (λ i. find_link t i ≡ Some at.link) same at.found in
        (let one : Some at.link ≡ Some link = sym found ∙ here in cc one)

    may : MayHave s link d (x at.place)
    may =
        subst (λ (n : NodeId). MayHave s link n (x at.place)) (ap (λ (j : LinkSpec). other_end j at.hop.node) (sym one-link) ∙ at.far)
        (fits.each at.place at.hop link at.there (at.found ∙ ap Some one-link))

    -- nobody keeps that label off now
    free-now : (r : Role) → KeepsOff (now.nodes d.0).legs r [] (fibre_in link d) (x at.place) → ⊥
    free-now r kept =
        may.free (kept-then t s l now facts only d (fibre_in link d) (x at.place) r [] kept
        (λ g here arrives. (let never = none in cc (never, here))))

    not-down : Contains (now.nodes d.0).down (fibre_in link d) → ⊥
    not-down there =
        let ends : other_end link at.hop.node ≡ d = ap (λ (j : LinkSpec). other_end j at.hop.node) (sym one-link) ∙ at.far in
        up at.place at.hop link at.there (at.found ∙ ap Some one-link)
        (subst (λ (n : NodeId). Contains (s.nodes n.0).down (fibre_in link n)) (sym ends)
        (subst (λ fs. Contains fs (fibre_in link d)) (else_same.down d.0) there))

    never-refused : (code : ErrCode) → first_failure (checks (local_node t d) (now.nodes d.0) m link) ≡ Some code → ⊥
    never-refused code fails = go (cause-of t (now.nodes d.0) d u e l k rest set None (Work guard) code link own onward fails)
      where
        go : HasCause t (now.nodes d.0) d
            (record { lsp = l; egress = e; link = link; route = rest; set = set; upstream = None; role = Work guard }) code → ⊥
        go (IsFull is many) =
            let less : length (now.nodes d.0).legs < MOST_LEGS =
            subst (λ legs. length legs < MOST_LEGS) (sym (else_same.legs d none)) (room d.0) in
            omega (arith, many, less)
        go (IsUnknown is unknown) = unknown
        go (ComesDown is there) = not-down there
        go (HasNoLabel is kept) = free-now role.Work (kept (x at.place) at.among may.low may.high)
        go (HasNoWayBack hop more out back f is leads at_link some opposite kept) = cc some

    own-id : own_link (local_node t d) link.id ≡ Some link
    own-id = subst (λ i. own_link p i ≡ Some link) (sym its.id) own

    -- the label is offered
    in-offered : has (meet set (usable (local_node t d) (now.nodes d.0).legs role.Work [] (fibre_in link d))) (x at.place) ≡ true
    in-offered =
        has-filter (has (usable p z.legs role.Work [] (fibre_in link d))) set (x at.place)
        ∙ ap (λ b. b && has (usable p z.legs role.Work [] (fibre_in link d)) (x at.place)) at.among
        ∙ go (has (usable p z.legs role.Work [] (fibre_in link d)) (x at.place)) refl
      where
        go : (b : Bool) → has (usable (local_node t d) (now.nodes d.0).legs role.Work [] (fibre_in link d)) (x at.place) ≡ b → b ≡ true
        go true is = refl
        go false is =
            absurd (free-now role.Work (kept-off role.Work [] z.legs (fibre_in link d) (x at.place)
            (unusable p z.legs role.Work [] (fibre_in link d) link (x at.place) own-id may.low may.high is)))

    -- and each that is offered is free
    offered-free : (y : ℕ) → has (meet set (usable (local_node t d) (now.nodes d.0).legs role.Work [] (fibre_in link d))) y ≡ true →
        MayHave s link d y
    offered-free y among =
        let both : (has set y && has (usable p z.legs role.Work [] (fibre_in link d)) y) ≡ true =
        sym (has-filter (has (usable p z.legs role.Work [] (fibre_in link d))) set y) ∙ among in
        let is = usable-so p z.legs (fibre_in link d) link y own-id (and-right (has set y) _ both) in
        record {
          low = is.low;
          high = is.high;
          free = λ kept. is.free (kept-now t s l now facts only d (fibre_in link d) y (new d) facts_then kept);
        }

    well-egress : (o : Option ℕ) → WellAnswer t s l route x d
        (at_egress (local_node t d) m link [] (offered_labels (local_node t d) (now.nodes d.0) m link) o)
    well-egress None = well-nothing
    well-egress (Some y) = record {
      leg = OneLeg _ refl (record { work = refl; phase = inr refl; one_way = refl; offers = λ asked. absurd (cc asked) });
      sent = (tt, tt);
    }

    well-transit : (hop : Step) (more : List Step) → rest ≡ hop ∷ more → hop.node ≡ d → (o : Option LinkSpec) →
        own_link (local_node t d) hop.link ≡ o →
        WellAnswer t s l route x d (in_transit (local_node t d) (now.nodes d.0) m link more o)
    well-transit hop more is node None near = well-nothing
    well-transit hop more is node (Some out) near =
        let next = drop-next (suc at.place) route hop more (sym is ∙ at.left) in
        let at_out = own-link-at t d hop.link out near in
        let found : find_link t hop.link ≡ Some out =
        subst (λ i. find_link t i ≡ Some out) at_out.id
        (found-link t.links out (and-left _ _ (topology_searchable t valid)) at_out.there) in
        record {
          leg = OneLeg _ refl (record {
            work = refl;
            phase = inl refl;
            one_way = refl;
            offers = λ asked f at_f. record {
              link = link;
              fibre = sym (cc at_f);
              own = own-id;
              free = offered-free;
              some = (x at.place, in-offered);
              same = λ fixed. ap (λ b. cond b (up_to out.labels) (offered_labels (local_node t d) (now.nodes d.0) m link)) fixed;
            };
          });
          sent = (
            (
              refl,
              record {
                place = suc at.place;
                hop = hop;
                link = out;
                there = next.0;
                found = found;
                over = sym at_out.id;
                far = ap (other_end out) node;
                left = next.1;
                among = among (local_node t d).convert refl next.0 (fits.each (suc at.place) hop out next.0 found);
              },
            ),
            tt,
          );
        }
      where
        among : (b : Bool) → (local_node t d).convert ≡ b → slice_get route (suc at.place) ≡ Some hop →
            MayHave s out (other_end out hop.node) (x (suc at.place)) →
            has (cond b (up_to out.labels) (offered_labels (local_node t d) (now.nodes d.0) m link)) (x (suc at.place)) ≡ true
        among true e there then = has-up out.labels (x (suc at.place)) then.low then.high
        among false e there then =
            let fixed : converts (find_node t hop.node) ≡ false = subst (λ (n : NodeId). converts (find_node t n) ≡ false) (sym node) e in
            subst (λ y. has (offered_labels (local_node t d) (now.nodes d.0) m link) y ≡ true)
            (sym (fits.one at.place at.hop hop at.there there fixed)) in-offered

    well-judged : (o : Option ErrCode) → first_failure (checks (local_node t d) (now.nodes d.0) m link) ≡ o →
        WellAnswer t s l route x d (judged (local_node t d) (now.nodes d.0) m link o)
    well-judged (Some code) is = absurd (never-refused code is)
    well-judged None is = go rest refl onward
      where
        go : (left : List Step) → rest ≡ left → RouteLeadsOn t d e k left →
            WellAnswer t s l route x d (admitted (local_node t d) (now.nodes d.0) m link left)
        go [] same leads = well-egress (least (offered_labels p z m link))
        go (hop ∷ more) same leads = well-transit hop more same leads.1 (own_link p hop.link) refl

    pub well-first : WellAnswer t s l route x d (first_path (local_node t d) (now.nodes d.0) m (Some link))
    well-first =
        if_cases (WellAnswer t s l route x d)
        (not false && (leads (Some link) u (local_node t d).id && not (nat_eq l.ingress.0 (local_node t d).id.0))) _ _
        (λ h. well-judged (first_failure (checks (local_node t d) (now.nodes d.0) m link)) refl) (λ h. well-nothing)

  -- a Path of the LSP is never refused
  pub well-path : (u e : NodeId) (k : LinkId) (rest : List Step) (set : List ℕ) (guard : Bool) →
      AtHop t route x d k rest set → RouteLeadsOn t d e k rest → (o : Option Leg) → leg_at now l d ≡ o →
      WellAnswer t s l route x d (path_with (local_node t d) (now.nodes d.0)
      (record { arrival = arrival l e u k; route = rest; set = set; upstream = None; role = Work guard }) o)
  well-path u e k rest set guard at onward (Some g) here = well-nothing
  well-path u e k rest set guard at onward None here = go (own_link (local_node t d) k) refl
    where
      go : (o : Option LinkSpec) → own_link (local_node t d) k ≡ o →
          WellAnswer t s l route x d (first_path (local_node t d) (now.nodes d.0)
          (record { arrival = arrival l e u k; route = rest; set = set; upstream = None; role = Work guard }) o)
      go None own = well-nothing
      go (Some link) own = well-first u e k rest set guard at onward here link own
