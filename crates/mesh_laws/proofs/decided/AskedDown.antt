-- So does a message that goes down.
use Rattle.std.proofs.{Common.{◌≡◌, ◌≢◌, ◌≤◌, ◌<◌, ◌⊎◌, ℕ, suc, ◌+◌, ◌-◌, true, [], ◌∷◌, sym, ◌∙◌, ap, subst, arith, inl, inr}, lemmas.Bool.cases_lt}
use Rattle.std.specs.Prelude.{map}
use Rattle.ason_base.specs.{Network.Network, declared.ids.Lsp.Lsp, declared.ids.NodeId.NodeId, declared.messages.Msg.Msg}
use Rattle.mesh_rules.specs.{declared.events.MeshEvent.MeshEvent, declared.events.MeshEvent.TheVariants.Take, Changes.Answer, Events.{on_first, step}, LocalNodes.local_node, Machine.{Mesh, without_first}}
use Rattle.lsp_laws.specs.{HopLaw.{is_message_of, leg_at, mail_between}, HopShapes.{AskedLeg, Label, NoLeg, PlainPath, Removal, leg_kind, msg_kind}}
use Rattle.lsp_laws.proofs.{hops.Chain.IsVacant, hops.Plans.{IsPlanRoute, Plan, distinct, hops, node_at}, hops.Purposes.purpose_role, hops.Sending.{elsewhere-taken, left-taken}, hops.Views.leg-there}
use Rattle.mesh_laws.specs.Sweeps.{takes_one}
use Rattle.mesh_laws.proofs.{decided.AskedRow.{AskedRow, ComesBack, Farther, Granted, OnItsWay, first-kind, not-empty}, decided.Asked.{At, down_on, find-at, is-inside, kind_at, row-at, up_on}, soon.Soon.{Nears, Soon, to_the_next}, soon.Swept.StandsIn, decided.AskedGoal.{OnDown, OnUp, StillAsked, asked_goal, down-witness, up-stays, up-witness}, decided.AskedNears.{beyond, no-kinds, up-nears}, soon.Words.take-is}

module _ (t : Network) (l : Lsp) (p : Plan) (route : IsPlanRoute t l.ingress p) (s : Mesh) where
  -- Down

  module _ (i : ℕ) (below : i < hops p) (m : Msg) (own : is_message_of l m ≡ true)
      (waits : StandsIn (s.mail (node_at p i).0 (node_at p (suc i)).0) m []) (j : ℕ)
      (left : j + suc i ≡ hops p + hops p)
      (good : StillAsked t l p s (Take (node_at p (suc i)) (node_at p i))) where
    abbrev d : NodeId
    d = node_at p (suc i)

    abbrev u : NodeId
    u = node_at p i

    abbrev a : Answer
    a = on_first (local_node t d) (s.nodes d.0) u (s.mail u.0 d.0)

    abbrev s' : Mesh
    s' = step t s (Take d u)

    far : (k n : ℕ) → k ≤ hops p → n ≤ hops p → k ≢ n → (node_at p k).0 ≢ (node_at p n).0
    far = distinct t l.ingress p route

    kind-there : (k : ℕ) → k ≤ hops p → k ≢ suc i → kind_at l p s' k ≡ kind_at l p s k
    kind-there k most apart =
        ap leg_kind (leg-there (without_first s u.0 d.0) d (node_at p k) l a
        (far k (suc i) most (omega (arith, below)) apart))

    -- nothing of the LSP comes down there
    never-empty : down_on l p s i ≡ [] → ⊥
    never-empty none = not-empty l m (s.mail u.0 d.0) waits.later waits.all own none

    emptied : down_on l p s i ≡ PlainPath ∷ [] → down_on l p s' i ≡ []
    emptied down =
        ap (λ ms. map msg_kind ms)
        (left-taken s u d l a m waits.later (far i (suc i) (omega (arith, below)) (omega (arith, below)) (omega arith))
        waits.all)
        ∙ (first-kind l m (s.mail u.0 d.0) waits.later PlainPath waits.all own down).1

    -- the Path goes on, or its answer goes back
    went : kind_at l p s i ≡ AskedLeg → kind_at l p s (suc i) ≡ NoLeg → down_on l p s i ≡ PlainPath ∷ [] →
        Soon (asked_goal t l p) j s'
    went was none down = go (row-at t good.next l p s' good.later i below asked)
      where
        asked : kind_at l p s' i ≡ AskedLeg
        asked = kind-there i (omega (arith, below)) (omega arith) ∙ was

        vacant : (k : ℕ) → i < k → k ≤ hops p → IsVacant p (leg_at s l) (mail_between s l) k
        vacant = beyond t l p route s good.purpose good.chain i below none down

        on : kind_at l p s' (suc i) ≡ AskedLeg → Soon (asked_goal t l p) j s'
        on next = by-row (row-at t good.next l p s' good.later (suc i) more next)
          where
            more : suc i < hops p
            more = is-inside t good.next l p s' good.later (suc i) (omega (arith, below)) next

            none-after : kind_at l p s' (suc (suc i)) ≡ NoLeg
            none-after = kind-there (suc (suc i)) (omega (arith, more)) (omega arith)
                ∙ ap leg_kind (vacant (suc (suc i)) (omega arith) (omega (arith, more))).no_leg

            none-up : up_on l p s' (suc i) ≡ []
            none-up =
                ap (λ ms. map msg_kind ms) (elsewhere-taken s u d (node_at p (suc (suc i))) (node_at p (suc i)) l a
                (far (suc (suc i)) (suc i) (omega (arith, more)) (omega (arith, below)) (omega arith))
                (inl (far (suc (suc i)) i (omega (arith, more)) (omega (arith, below)) (omega arith))))
                ∙ no-kinds (mail_between s l (node_at p (suc (suc i))) (node_at p (suc i)))
                ((vacant (suc i) (omega arith) (omega (arith, below))).no_up more)

            by-row : AskedRow (purpose_role good.next) (kind_at l p s' (suc (suc i))) (down_on l p s' (suc i))
                (up_on l p s' (suc i)) → Soon (asked_goal t l p) j s'
            by-row (OnItsWay gone further up) =
                down-witness t l p s' (suc i) more further (j - 1) j (omega (arith, left, more)) (omega (arith, left, more))
            by-row (Farther asks further up) = absurd (cc (asks, none-after))
            by-row (ComesBack gone further up) = absurd (cc (none-up, up))
            by-row (Granted given further up) = absurd (cc (none-up, up))

        go : AskedRow (purpose_role good.next) (kind_at l p s' (suc i)) (down_on l p s' i) (up_on l p s' i) →
            Soon (asked_goal t l p) j s'
        go (OnItsWay gone further up) = let empty = emptied down in absurd (cc (empty, further))
        go (Farther next further up) = on next
        go (ComesBack gone further up) = up-witness t l p s' i below Removal up j (omega (arith, left, below))
        go (Granted given further up) = up-witness t l p s' i below Label up j (omega (arith, left, below))

    -- A message of the LSP that goes down brings it nearer.
    down-nears : Soon (asked_goal t l p) j s'
    down-nears = go (find-at t good.purpose l p s good.chain good.asked)
      where
        go : At good.purpose l p s → Soon (asked_goal t l p) j s'
        go at = compare (cases_lt at.place i) (cases_lt i at.place)
          where
            earlier : at.place < i →
                AskedRow (purpose_role good.purpose) (kind_at l p s (suc at.place)) (down_on l p s at.place)
                (up_on l p s at.place) → Soon (asked_goal t l p) j s'
            earlier less (OnItsWay none down up) =
                absurd (never-empty (no-kinds (mail_between s l u d)
                ((beyond t l p route s good.purpose good.chain at.place at.below none down i less (omega (arith, below))).no_down below)))
            earlier less (Farther next down up) = absurd (at.ends next)
            earlier less (ComesBack gone down up) =
                up-stays t l p s at.place at.below Removal up d u
                (far (suc i) at.place (omega (arith, below)) (omega (arith, less, below)) (omega (arith, less))) j
                (omega (arith, less, left, below))
            earlier less (Granted given down up) =
                up-stays t l p s at.place at.below Label up d u
                (far (suc i) at.place (omega (arith, below)) (omega (arith, less, below)) (omega (arith, less))) j
                (omega (arith, less, left, below))

            here : kind_at l p s i ≡ AskedLeg → AskedRow (purpose_role good.purpose) (kind_at l p s (suc i)) (down_on l p s i)
                (up_on l p s i) → Soon (asked_goal t l p) j s'
            here was (OnItsWay none down up) = went was none down
            here was (Farther next down up) = absurd (never-empty down)
            here was (ComesBack gone down up) = absurd (never-empty down)
            here was (Granted given down up) = absurd (never-empty down)

            later : i < at.place → AskedRow (purpose_role good.purpose) (kind_at l p s (suc i)) (down_on l p s i)
                (up_on l p s i) → Soon (asked_goal t l p) j s'
            later more (OnItsWay none down up) = absurd (let next = at.asked (suc i) (omega (arith, more)) in cc (none, next))
            later more (Farther next down up) = absurd (never-empty down)
            later more (ComesBack gone down up) = absurd (never-empty down)
            later more (Granted given down up) = absurd (never-empty down)

            compare : (at.place < i) ⊎ (i ≤ at.place) → (i < at.place) ⊎ (at.place ≤ i) → Soon (asked_goal t l p) j s'
            compare (inl less) _ = earlier less at.row
            compare (inr _) (inl more) =
                later more (row-at t good.purpose l p s good.chain i below (at.asked i (omega (arith, more))))
            compare (inr most) (inr least) =
                here (at.asked i (omega (arith, most)))
                (row-at t good.purpose l p s good.chain i below (at.asked i (omega (arith, most))))

-- Either way it is nearer by one.
pub asked-nears : (t : Network) (l : Lsp) (p : Plan) → IsPlanRoute t l.ingress p →
    Nears t to_the_next (asked_goal t l p)
asked-nears t l p route = record { says = says; tells = λ s e j n i good tells one waits. absurd tells; stays = λ s e good done. done }
  where
    says : (s : Mesh) (e : MeshEvent) (j u d : ℕ) (m : Msg) → StillAsked t l p s e →
        OnDown p l j u d m ⊎ OnUp p l j u d m → takes_one u d e ≡ 1 → StandsIn (s.mail u d) m [] →
        Soon (asked_goal t l p) j (step t s e)
    says s e j u d m good (inl is) one waits =
        let taken : takes_one (node_at p is.place).0 (node_at p (suc is.place)).0 e ≡ 1 = rw (← is.from, ← is.to) one in
        let event = take-is (node_at p is.place) (node_at p (suc is.place)) e taken in
        subst (λ x. Soon (asked_goal t l p) j (step t s x)) (sym event)
        (down-nears t l p route s is.place is.below m is.own (rw (is.from, is.to) at waits) j is.left
        (subst (λ x. StillAsked t l p s x) event good))
    says s e j u d m good (inr is) one waits =
        let taken : takes_one (node_at p (suc j)).0 (node_at p j).0 e ≡ 1 = rw (← is.from, ← is.to) one in
        let event = take-is (node_at p (suc j)) (node_at p j) e taken in
        subst (λ x. Soon (asked_goal t l p) j (step t s x)) (sym event)
        (up-nears t l p route s j is.below m is.own (rw (is.from, is.to) at waits)
        (subst (λ x. StillAsked t l p s x) event good))
