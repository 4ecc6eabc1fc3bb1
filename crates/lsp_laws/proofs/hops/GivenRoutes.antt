-- Routes that are given for a backup: each LSP that begins over one is beside the route of its call.
use Rattle.std.proofs.Common.{◌≡◌, ◌<◌, ◌⊎◌, inl, inr, Bool, true, false, cond, nat_eq, nat_lt, List, [], ◌∷◌, drop, length, refl, sym, ap, ◌∙◌, subst, arith}
use Rattle.std.specs.Prelude.{◌&&◌, Option, Some, None}
use Rattle.mesh_rules.specs.{declared.limits.TheConstants.MOST_LINKS_OF_ROUTE, Calls.is_asking, Changes.{Answer, changed}, Commands.has_backup_way, Events.{first_route, or_route}, FirstLegs.first_link, LocalNodes.{LocalNode, local_node, own_link}, Machine.{Mesh, commit}, Setups.{SetupRequest, begins, next_lsp}}
use Rattle.ason_base.specs.{Network.Network, Routes.is_beside, declared.ids.Fibre.Fibre, declared.ids.Lsp.Lsp, declared.ids.NodeId.NodeId, declared.steps.Step.Step, declared.network.LinkSpec.LinkSpec, declared.tables.CallRec.CallRec}
use Rattle.mesh_nodes.proofs.LegList.{same_lsp-refl}
use Rattle.lsp_laws.specs.ReportLaw.{AreOf, IsOfRoute, ReportsAreOf}
use Rattle.lsp_laws.proofs.{nodes.CallMoves.{IsSameCall, moves-none}, nodes.CallChanges.{ArePut, EachCall, each-after}, hops.Plans.found_id, hops.Planned.{Routes, Follows, EachFollows, Grow}, hops.Stepped.grown}
use Rattle.ason_base.proofs.{Bools.{and-left, and-right}, Numbers.self-number, Members.all-then, JoinedEnds.same-node}

-- where the call has a working LSP, which went over a route, and was given a backup route
abbrev pub GivenBeside : Network → Routes → NodeId → CallRec → Type 0
GivenBeside t o n c =
    (l : Lsp) (backup : List Step) → c.work ≡ Some l → c.backup ≡ Some backup →
    (route : List Step) × (o l ≡ Some route) × (is_beside t n c.egress (Some route) backup ≡ true)

-- and each fibre that is reported of an LSP of the call is of the LSP's route
pub record IsGivenCall (t : Network) (o : Routes) (n : NodeId) (c : CallRec) : Type 0 where
  pub beside : GivenBeside t o n c
  pub told : ReportsAreOf (IsOfRoute t o) c

abbrev pub EachGivenBeside : Network → Mesh → Routes → Type 0
EachGivenBeside t s o = (n : NodeId) → EachCall (IsGivenCall t o n) (s.nodes n.0).calls

-- What was sent first stays, and so does what a call was given

grown-of : (t : Network) (o o' : Routes) → Grow o o' → (l : Lsp) (f : Fibre) → IsOfRoute t o l f → IsOfRoute t o' l f
grown-of t o o' grow l f of = record {
  route = of.route;
  sent = grow l of.route of.sent;
  to = of.to;
  made = of.made;
  at = of.at;
  link = of.link;
  into = of.into;
}

grown-all : (t : Network) (o o' : Routes) → Grow o o' → (l : Option Lsp) (fibres : List Fibre) →
    AreOf (IsOfRoute t o) l fibres → AreOf (IsOfRoute t o') l fibres
grown-all t o o' grow None fibres all = tt
grown-all t o o' grow (Some l) fibres all =
    all-then (IsOfRoute t o l) (IsOfRoute t o' l) fibres (grown-of t o o' grow l) all

pub still-beside : (t : Network) (o o' : Routes) (n : NodeId) → Grow o o' → (c d : CallRec) →
    IsSameCall (IsOfRoute t o) c d → IsGivenCall t o n c → IsGivenCall t o' n d
still-beside t o o' n grow c d is given = record {
  beside = λ l backup work back. go l backup work back is.work;
  told = (
      let told = is.moves.told given.told in
      record {
        work = grown-all t o o' grow d.work d.work_reports told.work;
        back = grown-all t o o' grow d.back d.back_reports told.back;
      });
}
  where
    go : (l : Lsp) (backup : List Step) → d.work ≡ Some l → d.backup ≡ Some backup →
        (d.work ≡ c.work) ⊎ ((d.work ≡ None) × (is_asking c.state ≡ true)) →
        (route : List Step) × (o' l ≡ Some route) × (is_beside t n d.egress (Some route) backup ≡ true)
    go l backup work back (inl same_work) =
        let b = given.beside l backup (sym same_work ∙ work) (sym is.backup ∙ back) in
        (b.0, grow l b.0 b.1, rw is.egress b.2)
    go l backup work back (inr none) = absurd (let gone = none.0 in cc (gone, work))

pub same-call : (t : Network) (o : Routes) (c : CallRec) → IsSameCall (IsOfRoute t o) c c
same-call t o c = record {
  egress = refl;
  protected = refl;
  backup = refl;
  work = inl refl;
  moves = moves-none (IsOfRoute t o) c;
}

pub grown-beside : (t : Network) (s : Mesh) (o o' : Routes) → Grow o o' → EachGivenBeside t s o →
    EachGivenBeside t s o'
grown-beside t s o o' grow each n k c found = still-beside t o o' n grow c c (same-call t o c) (each n k c found)

-- an answer is carried out at the node n
pub committed : (t : Network) (s : Mesh) (n : NodeId) (a : Answer) (o o' : Routes) → Grow o o' →
    ArePut (IsGivenCall t o' n) a.calls → EachGivenBeside t s o → EachGivenBeside t (commit s n.0 a) o'
committed t s n a o o' grow put each m = go (nat_eq m.0 n.0) refl
  where
    go : (b : Bool) → nat_eq m.0 n.0 ≡ b →
        EachCall (IsGivenCall t o' m) (cond b (changed (s.nodes m.0) a) (s.nodes m.0)).calls
    go true e =
        let number : m.0 ≡ n.0 = grind arith in
        let is : m ≡ n = same-node m n number in
        each-after (IsGivenCall t o' m) a.calls (s.nodes m.0).calls
        (subst (λ x. ArePut (IsGivenCall t o' x) a.calls) (sym is) put) (grown-beside t s o o' grow each m)
    go false e = grown-beside t s o o' grow each m

-- A setup

-- the first step of the route is over this link of the node
pub starts-with : (p : LocalNode) (route : List Step) (out : LinkSpec) → first_link p route ≡ Some out →
    record { node = p.id; link = out.id } ∷ drop 1 route ≡ route
starts-with p [] out first = absurd (cc first)
starts-with p (hop ∷ further) out first =
    go (nat_eq hop.node.0 p.id.0 && nat_lt (length further) MOST_LINKS_OF_ROUTE) refl first
  where
    go : (b : Bool) → (nat_eq hop.node.0 p.id.0 && nat_lt (length further) MOST_LINKS_OF_ROUTE) ≡ b →
        cond b (own_link p hop.link) None ≡ Some out →
        record { node = p.id; link = out.id } ∷ further ≡ hop ∷ further
    go true e found =
        let test : nat_eq hop.node.0 p.id.0 ≡ true = and-left _ (nat_lt (length further) MOST_LINKS_OF_ROUTE) e in
        let number : p.id.0 ≡ hop.node.0 = grind arith in
        let node_is = same-node p.id hop.node number in
        let link_is = found_id hop.link p.own out found in
        λ i. record { node = node_is i; link = link_is i } ∷ further
    go false e found = absurd (cc found)

module _ (t : Network) (s : Mesh) (n : NodeId) (o : Routes) (f : EachFollows t s o) where
  abbrev place : LocalNode
  place = local_node t n

  abbrev next : Lsp
  next = next_lsp (local_node t n) (s.nodes n.0)

  -- no LSP has the number that is given out next
  unused : o (next_lsp (local_node t n) (s.nodes n.0)) ≡ None
  unused = go (o next) refl (f next)
    where
      go : (c : Option (List Step)) → o next ≡ c → Follows t s o (next_lsp (local_node t n) (s.nodes n.0)) c →
          o next ≡ None
      go None is follow = is
      go (Some route) is (e, q, pl) =
          let below : (s.nodes n.0).lsp < (s.nodes n.0).lsp = pl.number in absurd (omega arith)

  -- its first Path goes over the route
  pub sent-over : (w : SetupRequest) (route : List Step) (out : LinkSpec) →
      first_link (local_node t n) route ≡ Some out →
      grown n o (begins (local_node t n) (s.nodes n.0) w out (drop 1 route))
      (next_lsp (local_node t n) (s.nodes n.0)) ≡ Some route
  sent-over w route out first =
      let answer = begins place (s.nodes n.0) w out (drop 1 route) in
      let here : first_route next (cond (nat_eq n.0 n.0) answer.sent []) ≡
      Some (record { node = n; link = out.id } ∷ drop 1 route) = rw (self-number n.0, same_lsp-refl next) refl in
      ap (λ x. or_route x (first_route next (cond (nat_eq n.0 n.0) answer.sent []))) unused ∙ here ∙
      ap Some (starts-with place route out first)

  pub begun-beside : (w : SetupRequest) → w.from ≡ n →
      has_backup_way t w.from w.egress w.protected w.via w.backup ≡ true →
      (route : List Step) (out : LinkSpec) → (w.via ≡ Some route) ⊎ (w.via ≡ None) →
      first_link (local_node t n) route ≡ Some out → (l : Lsp) (backup : List Step) →
      Some (next_lsp (local_node t n) (s.nodes n.0)) ≡ Some l → w.backup ≡ Some backup →
      (r : List Step) × (grown n o (begins (local_node t n) (s.nodes n.0) w out (drop 1 route)) l ≡ Some r) ×
      (is_beside t n w.egress (Some r) backup ≡ true)
  begun-beside w from way route out over first l backup is given =
      let own : next ≡ l = cc is in
      let way' : has_backup_way t w.from w.egress w.protected w.via (Some backup) ≡ true = rw given at way in
      let beside : is_beside t w.from w.egress w.via backup ≡ true = and-right w.protected _ way' in
      elim over [
        | inl via ↦ (
          route,
          subst (λ k. grown n o (begins place (s.nodes n.0) w out (drop 1 route)) k ≡ Some route) own
              (sent-over w route out first),
          subst (λ m. is_beside t m w.egress (Some route) backup ≡ true) from
              (subst (λ v. is_beside t w.from w.egress v backup ≡ true) via beside),
        )
        | inr none ↦
            absurd (let never = subst (λ v. is_beside t w.from w.egress v backup ≡ true) none beside in cc never)
      ]
