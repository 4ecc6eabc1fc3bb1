-- While the leg of an LSP at the ingress stays Asked, each of its messages that comes up brings it nearer to its answer by
-- a hop as it is taken.
use Rattle.std.proofs.{Common.{◌≡◌, ◌≢◌, ◌≤◌, ◌<◌, ◌⊎◌, ℕ, zero, suc, true, false, List, [], ◌∷◌, refl, sym, ◌∙◌, ap, subst, arith, inl, inr}, lemmas.Bool.cases_lt}
use Rattle.std.specs.Prelude.{Some, None, map}
use Rattle.ason_base.specs.{Network.Network, declared.calls.Phase.TheVariants.Asked, declared.ids.Lsp.Lsp, declared.ids.NodeId.NodeId, declared.messages.Msg.Msg, declared.messages.Msg.TheVariants.{Path, Resv, PathTear, PathErr, Notify}, declared.tables.Leg.Leg}
use Rattle.ason_base.proofs.Numbers.{self-number}
use Rattle.mesh_rules.specs.{declared.events.MeshEvent.TheVariants.Take, Changes.Answer, Events.{on_first, step}, Legs.previous, LocalNodes.local_node, Machine.{Mesh, without_first}, Messages.on_message, PathErrs.PathFailure}
use Rattle.lsp_laws.specs.{HopLaw.{is_message_of, leg_at, mail_between}, HopShapes.{AskedLeg, Label, MsgKind, NoLeg, PlainPath, Removal, leg_kind, msg_kind}}
use Rattle.lsp_laws.proofs.{hops.Chain.{Chain, IsFirstPathAt, IsVacant, LegFitsPlan}, hops.LegChanges.following_is, hops.Plans.{IsPlanRoute, Plan, distinct, hops, node_at}, hops.Purposes.{Purpose, has_path, purpose_role}, hops.Sending.{elsewhere-taken, left-taken}, hops.Tables.leg_after, hops.Views.{leg-here, leg-there}, hops.LegKinds.gone_none, hops.RowStates.let_go_not_asked}
use Rattle.mesh_laws.proofs.{decided.AskedRow.{AskedRow, ComesBack, Farther, Granted, HasGiven, OnItsWay, first-kind, given-not-asked, given-not-none, not-empty}, decided.Asked.{At, asked-leg, down_on, find-at, kind_at, row-at, up_on}, soon.Soon.Soon, soon.Swept.StandsIn, decided.AskedGoal.{StillAsked, asked_goal, up-stays, up-witness}, decided.Refused.{Removes, removed-leg, removes-of}}

-- A message of the LSP, the first on its hop

plain-path : (ms : List Msg) → map msg_kind ms ≡ PlainPath ∷ [] → has_path ms ≡ true
plain-path [] e = absurd (cc e)
plain-path (Path l e k route set up r ∷ ms) is = refl
plain-path (Resv l e k x ∷ ms) is = absurd (cc is)
plain-path (PathTear l e k ∷ ms) is = absurd (cc is)
plain-path (PathErr l e at true code ∷ ms) is = absurd (cc is)
plain-path (PathErr l e at false code ∷ ms) is = absurd (cc is)
plain-path (Notify l e at k code ∷ ms) is = absurd (cc is)

-- where there is no message, there is none of any kind
pub no-kinds : (ms : List Msg) → ms ≡ [] → map msg_kind ms ≡ []
no-kinds ms e = rw e refl

module _ (t : Network) (l : Lsp) (p : Plan) (route : IsPlanRoute t l.ingress p) (s : Mesh) where
  -- beyond a first Path there is nothing
  pub beyond : (q : Purpose) → Chain t q l p (leg_at s l) (mail_between s l) → (i : ℕ) → i < hops p →
      kind_at l p s (suc i) ≡ NoLeg → down_on l p s i ≡ PlainPath ∷ [] → (j : ℕ) → i < j → j ≤ hops p →
      IsVacant p (leg_at s l) (mail_between s l) j
  beyond q chain i below none down j after most =
      let first : IsFirstPathAt p (leg_at s l) (mail_between s l) i = record {
        gone = gone_none (leg_at s l (node_at p (suc i))) none;
        path = plain-path (mail_between s l (node_at p i) (node_at p (suc i))) down;
      } in
      chain.fresh i below first j after most

  -- Up

  module _ (i : ℕ) (below : i < hops p) (m : Msg) (own : is_message_of l m ≡ true)
      (waits : StandsIn (s.mail (node_at p (suc i)).0 (node_at p i).0) m [])
      (good : StillAsked t l p s (Take (node_at p i) (node_at p (suc i)))) where
    abbrev d : NodeId
    d = node_at p i

    abbrev u : NodeId
    u = node_at p (suc i)

    abbrev a : Answer
    a = on_first (local_node t d) (s.nodes d.0) u (s.mail u.0 d.0)

    abbrev s' : Mesh
    s' = step t s (Take d u)

    far : (j k : ℕ) → j ≤ hops p → k ≤ hops p → j ≢ k → (node_at p j).0 ≢ (node_at p k).0
    far = distinct t l.ingress p route

    kind-there : (j : ℕ) → j ≤ hops p → j ≢ i → kind_at l p s' j ≡ kind_at l p s j
    kind-there j most apart =
        ap leg_kind (leg-there (without_first s u.0 d.0) d (node_at p j) l a (far j i most (omega (arith, below)) apart))

    after : (k : ℕ) → (x : MsgKind) → up_on l p s i ≡ x ∷ [] → up_on l p s' i ≡ []
    after k x up =
        ap (λ ms. map msg_kind ms) (left-taken s u d l a m waits.later (far (suc i) i (omega (arith, below)) (omega (arith, below)) (omega arith)) waits.all)
        ∙ (first-kind l m (s.mail u.0 d.0) waits.later x waits.all own up).1

    -- a label came: its leg isn't Asked any more
    granted : HasGiven (kind_at l p s (suc i)) → up_on l p s i ≡ Label ∷ [] → kind_at l p s' i ≡ AskedLeg → ⊥
    granted given up asked =
        go (row-at t good.next l p s' good.later i below asked)
      where
        same-kind : kind_at l p s' (suc i) ≡ kind_at l p s (suc i)
        same-kind = kind-there (suc i) (omega (arith, below)) (omega arith)

        given' : HasGiven (kind_at l p s' (suc i))
        given' = subst HasGiven (sym same-kind) given

        go : AskedRow (purpose_role good.next) (kind_at l p s' (suc i)) (down_on l p s' i) (up_on l p s' i) → ⊥
        go (OnItsWay none down none_up) = given-not-none (kind_at l p s' (suc i)) given' none
        go (Farther next down none_up) = given-not-asked (kind_at l p s' (suc i)) given' next
        go (ComesBack gone down up') = let none = after 0 Label up in cc (none, up')
        go (Granted given down up') = let none = after 0 Label up in cc (none, up')

    -- a refusal came: its leg is gone
    refused : kind_at l p s i ≡ AskedLeg → up_on l p s i ≡ Removal ∷ [] → kind_at l p s' i ≡ AskedLeg → ⊥
    refused was_asked up asked =
        cc (ap leg_kind none, asked)
      where
        kind : msg_kind m ≡ Removal
        kind = (first-kind l m (s.mail u.0 d.0) waits.later Removal waits.all own up).0

        is : Removes l m
        is = removes-of l m own kind

        was : s.mail u.0 d.0 ≡ PathErr l is.egress is.at true is.code ∷ waits.later
        was = waits.all ∙ ap (λ x. x ∷ waits.later) is.is

        leg : (g : Leg) × (leg_at s l d ≡ Some g) × (g.phase ≡ Asked)
        leg = asked-leg (leg_at s l d) was_asked

        fits : LegFitsPlan t good.purpose l p i leg.0
        fits = rw (leg.1) at (good.chain.fits i (omega (arith, below)))

        failure : PathFailure
        failure = record { lsp = l; msg = PathErr l is.egress is.at true is.code; removed = true; code = is.code }

        rule : leg_after l (on_message (local_node t d) (s.nodes d.0) u (PathErr l is.egress is.at true is.code)).legs
            (leg_at s l d) ≡ None
        rule =
            rw (leg.1, following_is t good.purpose l p i leg.0 fits below, self-number u.0, leg.2)
            (removed-leg l (s.nodes d.0) leg.0 failure (previous leg.0) fits.own)

        none : leg_at s' l d ≡ None
        none =
            leg-here (without_first s u.0 d.0) d l a
            ∙ subst (λ ms. leg_after l (on_first (local_node t d) (s.nodes d.0) u ms).legs (leg_at s l d) ≡ None)
            (sym was) rule

    -- so it isn't Asked after its answer
    abbrev Answers : Type 0
    Answers = (kind_at l p s' i ≡ AskedLeg → ⊥)

    -- then the answer is on the hop before, if there is one
    passes : (at : At good.purpose l p s) → at.place ≡ i → Answers → (j : ℕ) → suc j ≡ i → Soon (asked_goal t l p) i s'
    passes at here done j is =
        go (row-at t good.next l p s' good.later j under asked)
      where
        under : j < hops p
        under = omega (arith, is, below)

        was : kind_at l p s j ≡ AskedLeg
        was = at.asked j (omega (arith, is, here))

        next : kind_at l p s (suc j) ≡ AskedLeg
        next = at.asked (suc j) (omega (arith, is, here))

        asked : kind_at l p s' j ≡ AskedLeg
        asked = kind-there j (omega (arith, under)) (omega (arith, is)) ∙ was

        none-before : AskedRow (purpose_role good.purpose) (kind_at l p s (suc j)) (down_on l p s j) (up_on l p s j) →
            down_on l p s j ≡ []
        none-before (OnItsWay none down up) = absurd (cc (none, next))
        none-before (Farther asks down up) = down
        none-before (ComesBack gone down up) = down
        none-before (Granted given down up) = down

        none-down : down_on l p s' j ≡ []
        none-down =
            ap (λ ms. map msg_kind ms) (elsewhere-taken s u d (node_at p j) (node_at p (suc j)) l a
            (far j i (omega (arith, under)) (omega (arith, below)) (omega (arith, is)))
            (inl (far j (suc i) (omega (arith, under)) (omega (arith, below)) (omega (arith, is)))))
            ∙ none-before (row-at t good.purpose l p s good.chain j under was)

        go : AskedRow (purpose_role good.next) (kind_at l p s' (suc j)) (down_on l p s' j) (up_on l p s' j) →
            Soon (asked_goal t l p) i s'
        go (OnItsWay none down up) = absurd (cc (none-down, down))
        go (Farther asks down up) = absurd (done (subst (λ (x : ℕ). kind_at l p s' x ≡ AskedLeg) is asks))
        go (ComesBack gone down up) = up-witness t l p s' j under Removal up i (omega (arith, is))
        go (Granted given down up) = up-witness t l p s' j under Label up i (omega (arith, is))

    -- nothing of the LSP comes up there
    never-empty : up_on l p s i ≡ [] → ⊥
    never-empty none = not-empty l m (s.mail u.0 d.0) waits.later waits.all own none

    at-it : (at : At good.purpose l p s) → at.place ≡ i → Answers → Soon (asked_goal t l p) i s'
    at-it at here done = go i refl
      where
        go : (k : ℕ) → k ≡ i → Soon (asked_goal t l p) i s'
        go zero e = absurd (done (subst (λ (x : ℕ). kind_at l p s' x ≡ AskedLeg) e good.still))
        go (suc k) e = passes at here done k e

    -- A message of the LSP that comes up brings it nearer.
    pub up-nears : Soon (asked_goal t l p) i s'
    up-nears = go (find-at t good.purpose l p s good.chain good.asked)
      where
        go : At good.purpose l p s → Soon (asked_goal t l p) i s'
        go at = compare (cases_lt at.place i) (cases_lt i at.place)
          where
            earlier : at.place < i →
                AskedRow (purpose_role good.purpose) (kind_at l p s (suc at.place)) (down_on l p s at.place)
                (up_on l p s at.place) → Soon (asked_goal t l p) i s'
            earlier less (OnItsWay none down up) =
                absurd (never-empty (no-kinds (mail_between s l u d)
                ((beyond good.purpose good.chain at.place at.below none down i less (omega (arith, below))).no_up below)))
            earlier less (Farther next down up) = absurd (at.ends next)
            earlier less (ComesBack gone down up) =
                up-stays t l p s at.place at.below Removal up d u
                (far i at.place (omega (arith, below)) (omega (arith, less, below)) (omega (arith, less))) i
                (omega (arith, less))
            earlier less (Granted given down up) =
                up-stays t l p s at.place at.below Label up d u
                (far i at.place (omega (arith, below)) (omega (arith, less, below)) (omega (arith, less))) i
                (omega (arith, less))

            here : at.place ≡ i → AskedRow (purpose_role good.purpose) (kind_at l p s (suc i)) (down_on l p s i)
                (up_on l p s i) → Soon (asked_goal t l p) i s'
            here e (OnItsWay none down up) = absurd (never-empty up)
            here e (Farther next down up) = absurd (never-empty up)
            here e (ComesBack gone down up) = at-it at e (refused (at.asked i (omega (arith, e))) up)
            here e (Granted given down up) = at-it at e (granted given up)

            later : i < at.place → AskedRow (purpose_role good.purpose) (kind_at l p s (suc i)) (down_on l p s i)
                (up_on l p s i) → Soon (asked_goal t l p) i s'
            later more (OnItsWay none down up) = absurd (never-empty up)
            later more (Farther next down up) = absurd (never-empty up)
            later more (ComesBack gone down up) =
                absurd (let_go_not_asked (purpose_role good.purpose) _ gone (at.asked (suc i) (omega (arith, more))))
            later more (Granted given down up) = absurd (given-not-asked _ given (at.asked (suc i) (omega (arith, more))))

            compare : (at.place < i) ⊎ (i ≤ at.place) → (i < at.place) ⊎ (at.place ≤ i) → Soon (asked_goal t l p) i s'
            compare (inl less) _ = earlier less at.row
            compare (inr _) (inl more) =
                later more (row-at t good.purpose l p s good.chain i below (at.asked i (omega (arith, more))))
            compare (inr most) (inr least) =
                here (omega (arith, most, least))
                (row-at t good.purpose l p s good.chain i below (at.asked i (omega (arith, most))))
