-- A step of the mesh in which a node begins an LSP: its chain, and how two answers follow each other.
use Rattle.std.proofs.Common.{◌≡◌, ◌≢◌, ◌<◌, ◌≤◌, ℕ, suc, Bool, true, false, cond, nat_eq, nat_lt, List, [], ◌∷◌, ◌++◌, length, refl, sym, ap, ◌∙◌, subst, arith, inl, inr}
use Rattle.std.specs.Prelude.{◌⊎◌, ◌&&◌, Option, Some, None}
use Rattle.mesh_rules.specs.{declared.limits.TheConstants.MOST_LINKS_OF_ROUTE, Changes.{Answer, followed_by}, LocalNodes.{LocalNode, own_link}, FirstLegs.first_link, Machine.{Mesh, commit}, Events.{first_route, or_route, whole_route}}
use Rattle.ason_base.specs.{Network.Network, declared.ids.LinkId.LinkId, declared.ids.Lsp.Lsp, declared.ids.NodeId.NodeId, declared.steps.Step.Step, declared.network.LinkSpec.LinkSpec, declared.calls.Phase.TheVariants.Asked, declared.messages.PathRole.PathRole, declared.messages.Msg.Msg, declared.messages.Msg.TheVariants.Path, declared.tables.Leg.Leg, declared.tables.Out.Out}
use Rattle.lsp_laws.specs.HopShapes.{PlainPath, path_kind}
use Rattle.lsp_laws.proofs.{hops.Plans.{Plan, hops, node_at, IsPlanRoute, distinct}, hops.Purposes.{Purpose, DownFits}, hops.Chain.{LegFitsPlan, PlaceFits, HopAt, OnRoute, IsPlace, Chain, is_or_not, at_or_else}, hops.Upstream.{hop_idle, hop_asks}, hops.Own.IsQuietAnswer, hops.Planned.{Routes, Follows, EachFollows, Grow, follows_same, follows_grown, or_assoc, or_none}, hops.FollowedBy.commit-then, hops.Quiet.same_quiet}

-- the chain of an LSP that has sent its first Path and nothing else
pub chain_begun : (t : Network) (q : Purpose) (l : Lsp) (p : Plan) (leg : NodeId → Option Leg)
    (mail : NodeId → NodeId → List Msg) (g : Leg)
    (e : NodeId) (k : LinkId) (r : List Step) (set : List ℕ) (role : PathRole) →
    path_kind role ≡ PlainPath → IsPlanRoute t l.ingress p →
    leg (node_at p 0) ≡ Some g → LegFitsPlan t q l p 0 g → g.phase ≡ Asked → g.out_label ≡ None →
    ((n : NodeId) → n.0 ≢ (node_at p 0).0 → leg n ≡ None) →
    mail (node_at p 0) (node_at p 1) ≡ Path l e k r set g.back_in role ∷ [] → set ≡ g.sent →
    DownFits q p 0 (Path l e k r set g.back_in role) →
    ((a b : NodeId) → (a.0 ≢ (node_at p 0).0) ⊎ (b.0 ≢ (node_at p 1).0) → mail a b ≡ []) →
    Chain t q l p leg mail
chain_begun t q l p leg mail g e k r set role plain route here fits asked bare else_none sent is_sent down_fits
    else_empty = record {
      fits = λ n small. at_or_else (λ n. PlaceFits t q l p n (leg (node_at p n))) n 0
          (λ at. rw here fits) (λ ne. rw (no_leg n small ne) tt);
      legs = λ n. stands n (is_or_not n.0 (node_at p 0).0);
      ways = λ a b. way a b (is_or_not a.0 (node_at p 0).0) (is_or_not b.0 (node_at p 1).0);
      each = λ n small. at_or_else (λ n. HopAt q p leg mail n) n 0
          (λ at. rw (here, no_leg 1 (omega arith) (omega arith), sent, no_up 0 route.long)
          (hop_asks q p 0 g l e k r set g.back_in role plain asked bare is_sent refl down_fits))
          (λ ne. rw
          (no_leg n (omega arith) ne, no_leg (suc n) (omega arith) (omega arith), no_down n small ne, no_up n small)
          (hop_idle q p n));
      fresh = λ n small path j after within. record {
        no_leg = no_leg j within (omega arith);
        no_down = λ below. no_down j below (omega arith);
        no_up = λ below. no_up j below;
      };
    }
  where
    long : 0 < hops p
    long = route.long

    no_leg : (n : ℕ) → n ≤ hops p → n ≢ 0 → leg (node_at p n) ≡ None
    no_leg n small ne = else_none (node_at p n) (distinct t l.ingress p route n 0 small (omega arith) ne)

    no_down : (n : ℕ) → n < hops p → n ≢ 0 → mail (node_at p n) (node_at p (suc n)) ≡ []
    no_down n small ne =
        else_empty (node_at p n) (node_at p (suc n))
        (inl (distinct t l.ingress p route n 0 (omega arith) (omega arith) ne))

    no_up : (n : ℕ) → n < hops p → mail (node_at p (suc n)) (node_at p n) ≡ []
    no_up n small =
        else_empty (node_at p (suc n)) (node_at p n)
        (inl (distinct t l.ingress p route (suc n) 0 (omega arith) (omega arith) (omega arith)))

    stands : (n : NodeId) → (n.0 ≡ (node_at p 0).0) ⊎ (n.0 ≢ (node_at p 0).0) → (leg n ≡ None) ⊎ IsPlace p n
    stands n (inl x) = inr (0, (omega arith), x)
    stands n (inr x) = inl (else_none n x)

    way : (a b : NodeId) → (a.0 ≡ (node_at p 0).0) ⊎ (a.0 ≢ (node_at p 0).0) →
        (b.0 ≡ (node_at p 1).0) ⊎ (b.0 ≢ (node_at p 1).0) → (mail a b ≡ []) ⊎ OnRoute p a b
    way a b (inl x) (inl y) = inr (0, long, inl (x, y))
    way a b (inl x) (inr y) = inl (else_empty a b (inr y))
    way a b (inr x) y = inl (else_empty a b (inl x))

-- the routes of the LSPs, with those of the first Paths that are sent at a node
abbrev pub grown : NodeId → Routes → Answer → Routes
grown n o a l = or_route (o l) (first_route l (cond (nat_eq n.0 l.ingress.0) a.sent []))

pub grown-grow : (n : NodeId) (o : Routes) (a : Answer) → Grow o (grown n o a)
grown-grow n o a l route e = rw e refl

-- what a step at a node leaves of an LSP
pub record LspStepped (t : Network) (s : Mesh) (n : NodeId) (o : Routes) (l : Lsp) (a : Answer) : Type 0 where
  pub follows : Follows t (commit s n.0 a) (grown n o a) l (grown n o a l)

abbrev pub EachStepped : Network → Mesh → NodeId → Routes → Answer → Type 0
EachStepped t s n o a = (l : Lsp) → LspStepped t s n o l a

-- no route that the answer sends is new, so the routes stay
pub stepped_kept : (t : Network) (s : Mesh) (n : NodeId) (o : Routes) (l : Lsp) (a : Answer) →
    Follows t (commit s n.0 a) o l (o l) → or_route (o l) (first_route l a.sent) ≡ o l → LspStepped t s n o l a
stepped_kept t s n o l a f none =
    let is : grown n o a l ≡ o l = kept (nat_eq n.0 l.ingress.0) in
    record {
      follows = subst (Follows t (commit s n.0 a) (grown n o a) l) (sym is)
          (follows_grown t (commit s n.0 a) o (grown n o a) l (o l) (grown-grow n o a) f);
    }
  where
    kept : (b : Bool) → or_route (o l) (first_route l (cond b a.sent [])) ≡ o l
    kept true = none
    kept false = or_none (o l)

pub stepped_none : (t : Network) (s : Mesh) (n : NodeId) (o : Routes) (l : Lsp) (a : Answer) →
    Follows t (commit s n.0 a) o l (o l) → first_route l a.sent ≡ None → LspStepped t s n o l a
stepped_none t s n o l a f none = stepped_kept t s n o l a f (rw none (or_none (o l)))

pub stepped_quiet : (t : Network) (s : Mesh) (n : NodeId) (o : Routes) (a : Answer) → EachFollows t s o →
    IsQuietAnswer a →
    EachStepped t s n o a
stepped_quiet t s n o a f quiet l =
    stepped_none t s n o l a (follows_same t s (commit s n.0 a) o l (o l) (same_quiet s n a l quiet) (f l))
    (rw quiet.sent refl)

-- One answer after the other

pub first-append : (l : Lsp) (a b : List Out) → first_route l (a ++ b) ≡ or_route (first_route l a) (first_route l b)
first-append l [] b = refl
first-append l (x ∷ a) b =
    ap (or_route (whole_route l x.msg)) (first-append l a b) ∙
    sym (or_assoc (whole_route l x.msg) (first_route l a) (first_route l b))

-- an answer of the node n that sends no first Path of an LSP that begins there
abbrev pub BeginsNone : NodeId → Routes → Answer → Type 0
BeginsNone n o a = (l : Lsp) → nat_eq n.0 l.ingress.0 ≡ true → or_route (o l) (first_route l a.sent) ≡ o l

pub begins-none : (n : NodeId) (o : Routes) (a : Answer) → ((l : Lsp) → first_route l a.sent ≡ None) → BeginsNone n o a
begins-none n o a none l here = rw (none l) (or_none (o l))

-- the first one is such an answer
pub stepped_then : (t : Network) (s : Mesh) (n : NodeId) (o : Routes) (a b : Answer) → BeginsNone n o a →
    EachStepped t (commit s n.0 a) n o b → EachStepped t s n o (followed_by a b)
stepped_then t s n o a b none steps l = record {
  follows = subst (λ x. Follows t (commit s n.0 (followed_by a b)) x l (x l)) all
      (subst (λ m. Follows t m (grown n o b) l (grown n o b l)) (sym (commit-then s n.0 a b)) (steps l).follows);
}
  where
    sent : (l : Lsp) (c : Bool) → nat_eq n.0 l.ingress.0 ≡ c →
        or_route (o l) (first_route l (cond c b.sent [])) ≡
        or_route (o l) (first_route l (cond c (a.sent ++ b.sent) []))
    sent l true e =
        sym (ap (or_route (o l)) (first-append l a.sent b.sent) ∙
        sym (or_assoc (o l) (first_route l a.sent) (first_route l b.sent)) ∙
        ap (λ x. or_route x (first_route l b.sent)) (none l e))
    sent l false e = refl

    all : grown n o b ≡ grown n o (followed_by a b)
    all = λ i l. sent l (nat_eq n.0 l.ingress.0) refl i

-- The link of the first step

-- the route begins with this step, over this link of the node
pub record StartsOver (p : LocalNode) (route : List Step) (out : LinkSpec) : Type 0 where
  pub hop : Step
  pub further : List Step
  pub is : route ≡ hop ∷ further
  pub over : own_link p hop.link ≡ Some out

pub starts_over : (p : LocalNode) (route : List Step) (out : LinkSpec) → first_link p route ≡ Some out →
    StartsOver p route out
starts_over p [] out e = absurd (cc e)
starts_over p (hop ∷ further) out e = go (nat_eq hop.node.0 p.id.0 && nat_lt (length further) MOST_LINKS_OF_ROUTE) e
  where
    go : (b : Bool) → cond b (own_link p hop.link) None ≡ Some out → StartsOver p (hop ∷ further) out
    go true e = record { hop = hop; further = further; is = refl; over = e }
    go false e = absurd (cc e)
