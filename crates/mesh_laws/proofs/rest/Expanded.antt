-- How much the work grows by an answer, while the routes grow by those of the first Paths that it sends.
use Rattle.std.proofs.Common.{◌≡◌, ◌≤◌, ◌<◌, ℕ, suc, ◌+◌, Bool, true, false, cond, nat_eq, List, [], ◌∷◌, drop, length, refl, sym, ◌∙◌, subst, arith}
use Rattle.std.specs.Prelude.{◌&&◌, nat_lt, Some, None}
use Rattle.mesh_rules.specs.{declared.limits.TheConstants.MOST_LINKS_OF_ROUTE, declared.changes.NextNumbers.NextNumbers, Changes.Answer, Events.{first_route, or_route}, FirstLegs.{NewLsp, asks_for, first_link}, LocalNodes.{LocalNode, local_node, own_link}, Machine.{Mesh, commit}, State.NodeState}
use Rattle.ason_base.specs.{Lsps.same_lsp, Network.Network, declared.ids.Lsp.Lsp, declared.ids.NodeId.NodeId, declared.steps.Step.Step, declared.network.LinkSpec.LinkSpec, declared.tables.CallRec.CallRec}
use Rattle.mesh_nodes.proofs.LegList.{same_lsp-eq}
use Rattle.lsp_laws.proofs.{hops.Stepped.grown, hops.OtherLsps.route-other, hops.Own.{AllSent, IsQuietAnswer}, hops.Planned.{IsLspUntouched, or_none}}
use Rattle.mesh_laws.specs.{Weights.{FirstRoutes, path_weight}, Work.WorkIsWithin}
use Rattle.mesh_laws.proofs.{rest.BeginRests.{begins-grow, known-else}, rest.Grown.{GrowsBy, grows-quiet}, rest.TurnRests.AreShort}

-- By this answer the work grows by at most `more`, and routes that are short stay short.
pub record Expands (s : Mesh) (n : NodeId) (o : FirstRoutes) (more : ℕ) (a : Answer) : Type 0 where
  pub grow : (w : ℕ) → WorkIsWithin o s w → WorkIsWithin (grown n o a) (commit s n.0 a) (w + more)
  pub short : AreShort o → AreShort (grown n o a)

-- no first Path of a new LSP is sent
abbrev pub IsRouteKnown : FirstRoutes → Answer → Type 0
IsRouteKnown o a = (l : Lsp) → or_route (o l) (first_route l a.sent) ≡ o l

-- Where no new LSP begins the routes stay, so it is enough that the work grows by no more.
pub expands-known : (s : Mesh) (n : NodeId) (o : FirstRoutes) (more : ℕ) (a : Answer) → IsRouteKnown o a →
    GrowsBy o s n more a →
    Expands s n o more a
expands-known s n o more a known grow = record {
  grow = λ w within. subst (λ (x : FirstRoutes). WorkIsWithin x (commit s n.0 a) (w + more)) all (grow w within);
  short = λ short. subst AreShort all short;
}
  where
    each : (l : Lsp) → o l ≡ grown n o a l
    each l = go (nat_eq n.0 l.ingress.0)
      where
        go : (b : Bool) → o l ≡ or_route (o l) (first_route l (cond b a.sent []))
        go true = sym (known l)
        go false = sym (or_none (o l))

    all : o ≡ grown n o a
    all = λ i l. each l i

-- An answer that touches no leg and sends nothing adds no work.
pub expands-quiet : (s : Mesh) (n : NodeId) (o : FirstRoutes) (more : ℕ) (a : Answer) → IsQuietAnswer a →
    Expands s n o more a
expands-quiet s n o more a quiet =
    expands-known s n o more a (λ l. rw quiet.sent (or_none (o l))) (grows-quiet o s n a more quiet)

-- A bound may be replaced by a greater one.
pub expands-more : (s : Mesh) (n : NodeId) (o : FirstRoutes) (m k : ℕ) (a : Answer) → m ≤ k → Expands s n o m a →
    Expands s n o k a
expands-more s n o m k a small first = record {
  grow = λ w within ps apart. (let h = first.grow w within ps apart in omega arith);
  short = first.short;
}

-- what is sent is of an LSP that has its route
pub known-of : (o : FirstRoutes) (j : Lsp) (route : List Step) (a : Answer) → AllSent j a.sent → o j ≡ Some route →
    IsRouteKnown o a
known-of o j route a of is l = go (same_lsp j l) refl
  where
    go : (b : Bool) → same_lsp j l ≡ b → or_route (o l) (first_route l a.sent) ≡ o l
    go true e =
        let known : o l ≡ Some route = subst (λ (k : Lsp). o k ≡ Some route) (same_lsp-eq j l e) is in
        rw known refl
    go false e = rw (route-other j l a.sent of e) (or_none (o l))

-- the first link of a route
pub first-short : (p : LocalNode) (route : List Step) (out : LinkSpec) → first_link p route ≡ Some out →
    length (drop 1 route) < MOST_LINKS_OF_ROUTE
first-short p [] out e = absurd (cc e)
first-short p (hop ∷ route) out e =
    go (nat_eq hop.node.0 p.id.0) (nat_lt (length route) MOST_LINKS_OF_ROUTE) refl e
  where
    go : (b c : Bool) → nat_lt (length route) MOST_LINKS_OF_ROUTE ≡ c →
        cond (b && c) (own_link p hop.link) None ≡ Some out →
        length route < MOST_LINKS_OF_ROUTE
    go true true small e = grind arith
    go true false small e = absurd (cc e)
    go false c small e = absurd (cc e)

-- a new LSP
module _ (t : Network) (s : Mesh) (o : FirstRoutes) (n : NodeId) (st : NodeState) (w : NewLsp) (c : CallRec)
    (numbers : NextNumbers) (blank : IsLspUntouched s w.lsp) (none : o w.lsp ≡ None)
    (small : length w.route < MOST_LINKS_OF_ROUTE) where
  abbrev answer : Answer
  answer = asks_for (local_node t n) st w c numbers

  new-short : AreShort o → AreShort (grown n o answer)
  new-short short l route is = go (same_lsp w.lsp l) refl
    where
      new : (b : Bool) → same_lsp w.lsp l ≡ true → o l ≡ None →
          or_route (o l) (first_route l (cond b answer.sent [])) ≡ Some route →
          length route ≤ MOST_LINKS_OF_ROUTE
      new true same empty e =
          let is : Some (record { node = w.lsp.ingress; link = w.out.id } ∷ w.route) ≡ Some route =
          rw (empty, same) at e in
          let one : record { node = w.lsp.ingress; link = w.out.id } ∷ w.route ≡ route = cc is in
          rw (← one) (omega arith)
      new false same empty e = absurd (let never : None ≡ Some route = rw empty at e in cc never)

      go : (b : Bool) → same_lsp w.lsp l ≡ b → length route ≤ MOST_LINKS_OF_ROUTE
      go true e =
          new (nat_eq n.0 l.ingress.0) e (subst (λ (k : Lsp). o k ≡ None) (same_lsp-eq w.lsp l e) none) is
      go false e = short l route (sym (known-else t s o n st w c numbers blank l e) ∙ is)

  -- An LSP that begins adds the weight of its first Path, and its route is short.
  pub begins-expand : Expands s n o (path_weight w.role None (suc (length w.route))) answer
  begins-expand = record { grow = begins-grow t s o n st w c numbers blank; short = new-short }
