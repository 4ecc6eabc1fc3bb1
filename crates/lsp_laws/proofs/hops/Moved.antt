-- A leg at the ingress of its LSP changes, and one message goes on: a move of one LSP. After it each LSP stands with
-- the route that it had.
use Rattle.std.proofs.Common.{◌≡◌, Bool, true, false, List, [], ◌∷◌, ◌++◌, refl, sym, ap, ◌∙◌, subst, arith}
use Rattle.std.specs.Prelude.{Option, Some, None}
use Rattle.ason_base.specs.{Lsps.same_lsp, Network.Network, declared.ids.Lsp.Lsp, declared.ids.NodeId.NodeId, declared.steps.Step.Step, declared.messages.Msg.Msg, declared.tables.Leg.Leg}
use Rattle.ason_base.proofs.JoinedEnds.{same-node}
use Rattle.mesh_rules.specs.declared.changes.LegChange.TheVariants as leg
use Rattle.mesh_rules.specs.{Changes.{Answer, followed_by, to_node}, Events.{first_route, or_route}, Machine.{Mesh, commit}}
use Rattle.lsp_laws.specs.{HopShapes.{NoLeg, leg_kind}, HopLaw.{is_message_of, leg_at, mail_between, notices_between}}
use Rattle.mesh_nodes.proofs.LegList.{same_lsp-eq}
use Rattle.lsp_laws.proofs.{hops.Stepped.{EachStepped, first-append, stepped_kept}, hops.Chain.{Chain, ChainHop, LegFitsPlan}, hops.Changed.place_changed, hops.FollowedBy.commit-then, hops.Notices.notices_same, hops.OtherLsps.{leg-other, mail-other, route-other, sent-plain}, hops.Own.{IsOf, IsQuietAnswer}, hops.Planned.{Planned, Routes, Follows, EachFollows, SameOf, follows_same, next_same, or_assoc, or_none}, hops.Plans.{Plan, plan, node_at, distinct}, hops.Quiet.same_quiet, hops.Purposes.Purpose, hops.Sending.{sent_of_lsp, sends_on, changed-here}, hops.Views.{SendsNoNotice, mail-else, notices-plain}}

-- Answers after which each LSP stands with the route that it had

pub record EachStays (t : Network) (s : Mesh) (n : NodeId) (o : Routes) (a : Answer) : Type 0 where
  pub follows : EachFollows t (commit s n.0 a) o
  -- no first Path is sent
  pub known : (l : Lsp) → or_route (o l) (first_route l a.sent) ≡ o l

pub stays_stepped : (t : Network) (s : Mesh) (n : NodeId) (o : Routes) (a : Answer) → EachStays t s n o a →
    EachStepped t s n o a
stays_stepped t s n o a h l = stepped_kept t s n o l a (h.follows l) (h.known l)

pub stays_quiet : (t : Network) (s : Mesh) (n : NodeId) (o : Routes) (a : Answer) → EachFollows t s o →
    IsQuietAnswer a →
    EachStays t s n o a
stays_quiet t s n o a f quiet = record {
  follows = λ l. follows_same t s (commit s n.0 a) o l (o l) (same_quiet s n a l quiet) (f l);
  known = λ l. rw quiet.sent (or_none (o l));
}

-- one answer after the other
pub stays_then : (t : Network) (s : Mesh) (n : NodeId) (o : Routes) (a b : Answer) → EachStays t s n o a →
    EachStays t (commit s n.0 a) n o b → EachStays t s n o (followed_by a b)
stays_then t s n o a b first next = record {
  follows = subst (λ m. EachFollows t m o) (sym (commit-then s n.0 a b)) next.follows;
  known = λ l.
      ap (or_route (o l)) (first-append l a.sent b.sent) ∙
      sym (or_assoc (o l) (first_route l a.sent) (first_route l b.sent)) ∙
      ap (λ x. or_route x (first_route l b.sent)) (first.known l) ∙ next.known l;
}

-- The chain of an LSP whose leg at the ingress changes

-- beyond the ingress a leg stands, and a message goes on to it
pub first_moves : (t : Network) (s : Mesh) (o : Routes) (l : Lsp) (q : Purpose) (p : Plan) → Planned t s o l q p →
    (a : Answer) (g : Leg) (m : Msg) → a.legs ≡ leg.Put g ∷ [] → a.sent ≡ to_node (node_at p 1) m ∷ [] →
    same_lsp g.lsp l ≡ true → is_message_of l m ≡ true → LegFitsPlan t q l p 0 g →
    (leg_kind (leg_at s l (node_at p 1)) ≡ NoLeg → ⊥) →
    ChainHop q p 0 (Some g) (leg_at s l (node_at p 1)) (mail_between s l (node_at p 0) (node_at p 1) ++ m ∷ [])
    (mail_between s l (node_at p 1) (node_at p 0)) →
    Chain t q l p (leg_at (commit s (node_at p 0).0 a) l) (mail_between (commit s (node_at p 0).0 a) l)
first_moves t s o l q p pl a g m legs sent own mine fits there after =
    place_changed t q l l.ingress p (leg_at s l) _ (mail_between s l) _ 0 (Some g) (sent_of_lsp l a.sent) [] (m ∷ [])
    pl.route pl.chain (omega arith)
    (changed-here s (node_at p 0) l a (Some g) (rw (legs, own) refl))
    (rw sent (sends_on t l l.ingress p pl.route 0 m pl.route.long mine))
    fits
    (λ x ne. rw (mail-else s (node_at p 0) x (node_at p 0) l a ne) (pl.chain.ways x (node_at p 0)))
    (λ k e. absurd (omega arith))
    (λ _. rw (mail-else s (node_at p 0) (node_at p 1) (node_at p 0) l a
    (distinct t l.ingress p pl.route 1 0 pl.route.long (omega arith) (omega arith))) after)
    (λ k less. absurd (omega arith))
    (λ _ gone. absurd (there (rw gone refl)))

-- Every LSP

-- the leg stands where its LSP begins
pub record BeginsAtNode (s : Mesh) (n : NodeId) (b : Leg) : Type 0 where
  pub there : leg_at s b.lsp n ≡ Some b
  pub ingress : b.lsp.ingress.0 ≡ n.0

-- An answer that is about the LSP of this leg alone, and that leaves its chain in order
module _ (t : Network) (s : Mesh) (n : NodeId) (o : Routes) (f : EachFollows t s o) (b : Leg)
    (begins : BeginsAtNode s n b) (a : Answer) (of : IsOf b.lsp a) (numbers : a.numbers ≡ None)
    (moves : (q : Purpose) (p : Plan) → Planned t s o b.lsp q p → leg_at s b.lsp (node_at p 0) ≡ Some b →
    Chain t q b.lsp p (leg_at (commit s (node_at p 0).0 a) b.lsp) (mail_between (commit s (node_at p 0).0 a) b.lsp))
  where
    abbrev later : Mesh
    later = commit s n.0 a

    plain : SendsNoNotice a.sent
    plain = sent-plain b.lsp a.sent of.sent

    moved : (q : Purpose) (p : Plan) → Planned t s o b.lsp q p → Planned t (commit s n.0 a) o b.lsp q p
    moved q p pl =
        let is : n ≡ node_at p 0 = sym (pl.route.first ∙ same-node b.lsp.ingress n begins.ingress) in
        record {
          route = pl.route;
          made = pl.made;
          chain = rw is (moves q p pl (rw (← is) begins.there));
          notices = notices_same p (notices_between s b.lsp) (notices_between later b.lsp)
              (λ x y. notices-plain s n x y b.lsp a plain) pl.notices;
          number = rw (next_same s n.0 b.lsp.ingress.0 a numbers) pl.number;
          guards = pl.guards;
          beside = pl.beside;
        }

    own : (h : Option (List Step)) → Follows t s o b.lsp h → Follows t (commit s n.0 a) o b.lsp h
    own None follow = absurd (let gone = follow.legs n in let there = begins.there in cc (there, gone))
    own (Some route) (e, q, pl) = (e, q, moved q (plan route e) pl)

    other : (l : Lsp) → same_lsp b.lsp l ≡ false → SameOf s (commit s n.0 a) l
    other l apart = record {
      still = record {
        legs = λ m. leg-other s n m b.lsp l a of apart;
        mail = λ x y. mail-other s n x y b.lsp l a of apart;
        next = (let e = next_same s n.0 l.ingress.0 a numbers in omega arith);
      };
      notices = λ x y. notices-plain s n x y l a plain;
    }

    follows : (l : Lsp) (same : Bool) → same_lsp b.lsp l ≡ same → Follows t (commit s n.0 a) o l (o l)
    follows l true e =
        subst (λ k. Follows t later o k (o k)) (same_lsp-eq b.lsp l e) (own (o b.lsp) (f b.lsp))
    follows l false e = follows_same t s later o l (o l) (other l e) (f l)

    known_own : (h x : Option (List Step)) → Follows t s o b.lsp h → or_route h x ≡ h
    known_own None x follow = absurd (let gone = follow.legs n in let there = begins.there in cc (there, gone))
    known_own (Some route) x follow = refl

    known : (l : Lsp) (same : Bool) → same_lsp b.lsp l ≡ same → or_route (o l) (first_route l a.sent) ≡ o l
    known l true e =
        subst (λ k. or_route (o k) (first_route k a.sent) ≡ o k) (same_lsp-eq b.lsp l e)
        (known_own (o b.lsp) (first_route b.lsp a.sent) (f b.lsp))
    known l false e = rw (route-other b.lsp l a.sent of.sent e) (or_none (o l))

    pub stays_moved : EachStays t s n o a
    stays_moved = record {
      follows = λ l. follows l (same_lsp b.lsp l) refl;
      known = λ l. known l (same_lsp b.lsp l) refl;
    }
