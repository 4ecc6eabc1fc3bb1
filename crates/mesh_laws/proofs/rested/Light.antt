-- Once nothing is under way, what one node sends the next one takes, LSP by LSP.
use Rattle.std.proofs.{Common.{◌≡◌, ◌<◌, ◌≤◌, ℕ, zero, suc, Bool, true, false, not, nat_eq, List, length, refl, sym, ap, ◌∙◌, subst, arith}, lemmas.Option.same_Some}
use Rattle.std.specs.Prelude.{Option, Some, None, is_some}
use Rattle.ason_base.specs.{Network.{Network, find_link, receiver_of, sender_of}, declared.calls.Phase.Phase, declared.calls.Role.Role, declared.ids.Fibre.Fibre, declared.ids.Lsp.Lsp, declared.ids.NodeId.NodeId, declared.network.LinkSpec.LinkSpec, declared.steps.Step.Step, declared.tables.Leg.Leg}
use Rattle.ason_base.proofs.Numbers.{self-number}
use Rattle.mesh_rules.specs.{declared.events.MeshEvent.MeshEvent, Events.{IsRun, after}, Legs.is_closing, LocalNodes.fibre_out, Machine.{Mesh, start}, Quiet.IsQuiet}
use Rattle.mesh_nodes.proofs.LegList.{found-lsp}
use Rattle.lsp_laws.specs.{HopLaw.{HopFits, RouteFits, leg_at}, ReportLaw.place_at}
use Rattle.lsp_laws.proofs.{hops.Law.step_at, hops.Plans.{IsPlanRoute, distinct, fibre_at, fibre_out_is, link_at, plan, route_made}, nodes.Facts.{FitsPhase, HasItsLabels, LegFacts}, nodes.NodeRuns.facts-hold}
use Rattle.mesh_laws.proofs.{reports.ReportLaws.place-is, restoration.Steps.{begins-at, ends-at, goes-on}, sent.Ends.{receiver-at, sender-at}, rested.Alike.{IsHeld, IsLive, RestsInPhase, leg-rests, leg-there, place-of}, rested.Rested.{rests-stands, routed}}
use Rattle.mesh_laws.specs.RestedLaw.{AreOpposite, Arrives, EachSentIsTakenAtRest, GoesBack, GoesOn, HasLeg, Leaves, Onward, Returning}

-- the ends of the other direction
turned-round : (t : Network) (e f : Fibre) → AreOpposite e f →
    (receiver_of t f ≡ sender_of t e) × (sender_of t f ≡ receiver_of t e)
turned-round t e f opposite = go e.forward f.forward refl refl
  where
    go : (a b : Bool) → e.forward ≡ a → f.forward ≡ b →
        (receiver_of t f ≡ sender_of t e) × (sender_of t f ≡ receiver_of t e)
    go true true h k = absurd (opposite.forward (h ∙ sym k))
    go false false h k = absurd (opposite.forward (h ∙ sym k))
    go true false h k = (
      rw (h, k, opposite.link) refl,
      rw (h, k, opposite.link) refl,
    )
    go false true h k = (
      rw (h, k, opposite.link) refl,
      rw (h, k, opposite.link) refl,
    )

-- a leg that rests has its labels
rests-labelled : (q : Phase) (g : Leg) → RestsInPhase q → FitsPhase q g → HasItsLabels g
rests-labelled _ g IsHeld fits = fits
rests-labelled _ g IsLive fits = fits

one-there : {X : Type 0} (o : Option X) (x : X) (p : Option ℕ) → is_some p ≡ is_some o → o ≡ Some x →
    (y : ℕ) × (p ≡ Some y)
one-there o x None self-number is = absurd (let never : false ≡ true = rw is at self-number in cc never)
one-there o x (Some y) self-number is = (y, refl)

-- a leg that has a fibre doesn't stand at that end
not-end : (a b : ℕ) (o : Option NodeId) (p : Option Fibre) (f : Fibre) → is_some o ≡ not (nat_eq a b) →
    is_some p ≡ is_some o → p ≡ Some f → a ≡ b → ⊥
not-end a b o p f node fibre is end =
    let test : nat_eq a b ≡ true = grind arith in
    let no_node : is_some o ≡ false = rw test at node in
    let some : is_some p ≡ true = rw is refl in
    cc (fibre, no_node, some)

module _ (t : Network) (events : List MeshEvent) (run : IsRun t start events)
    (quiet : IsQuiet (after t start events)) (r : Role) (l : Lsp) (route : List Step) (e : NodeId)
    (fits : RouteFits t (after t start events) r l route e) where
  abbrev s : Mesh
  s = after t start events

  abbrev at : ℕ → NodeId
  at i = place_at route e i

  facts-of : (n : NodeId) (g : Leg) → leg_at (after t start events) l n ≡ Some g → LegFacts n.0 (s.nodes n.0).lsp g
  facts-of n g here = ((facts-hold t events run).node n.0).leg l g here

  labelled : (n : NodeId) (g : Leg) → leg_at (after t start events) l n ≡ Some g → HasItsLabels g
  labelled n g here =
      rests-labelled g.phase g (leg-rests t s quiet r l route e fits n g here) (facts-of n g here).phase

  stands : (n : NodeId) (g : Leg) → leg_at (after t start events) l n ≡ Some g → is_closing g.phase ≡ false
  stands n g here = rests-stands g.phase (leg-rests t s quiet r l route e fits n g here)

  -- One hop

  record HopIs (i : ℕ) : Type 0 where
    link : LinkSpec
    hop : HopFits (after t start events) r l link (place_at route e i) (place_at route e (suc i))
    sender : sender_of t (fibre_out link (place_at route e i)) ≡ Some (place_at route e i)
    receiver : receiver_of t (fibre_out link (place_at route e i)) ≡ Some (place_at route e (suc i))

  hop-is : (i : ℕ) → i < length route → HopIs i
  hop-is i below =
      let step = step_at route i below in
      let its = fits.hops i step.0 step.1 in
      let on = goes-on t l.ingress e route fits.leads i step.0 its.link step.1 its.found in
      let is : IsPlanRoute t l.ingress (plan route e) = route_made t l.ingress e route fits.long fits.leads in
      let over = is.links i below in
      let there = step.1 in
      let found : find_link t (link_at (plan route e) i) ≡ Some its.link =
      (let on : link_at (plan route e) i ≡ step.0.link = rw there refl in rw on its.found) in
      let one : over.link ≡ its.link = (let x = over.found in cc (x, found)) in
      let apart = distinct t l.ingress (plan route e) is i (suc i) (omega (arith, below)) (omega (arith, below))
      (omega arith) in
      let fib : fibre_out its.link (at i) ≡ fibre_at t (plan route e) i =
      subst (λ k. fibre_out k (place_at route e i) ≡ fibre_at t (plan route e) i) one
      (ap (fibre_out over.link) (place-is route e i) ∙ fibre_out_is t (plan route e) i apart over) in
      record {
        link = its.link;
        hop = subst (λ n. HopFits s r l its.link n (at (suc i))) (sym on.near)
            (subst (λ n. HopFits s r l its.link step.0.node n) (sym on.far) its.fits);
        sender = ap (sender_of t) fib ∙ sender-at t (plan route e) i apart over ∙ ap Some (sym (place-is route e i));
        receiver = ap (receiver_of t) fib ∙ receiver-at t (plan route e) i apart over
            ∙ ap Some (sym (place-is route e (suc i)));
      }

  -- The places of a leg

  -- a leg with a fibre out stands before a hop of the route
  before-hop : (n : NodeId) (g : Leg) (f : Fibre) → leg_at (after t start events) l n ≡ Some g →
      g.out_fibre ≡ Some f → (i : ℕ) × (i < length route) × (n ≡ place_at route e i)
  before-hop n g f here out =
      let place = place-of t s quiet r l route e fits n g here in
      let own = facts-of n g here in
      go place.0 place.1 place.2 (λ last.
      not-end g.egress.0 n.0 g.next g.out_fibre f own.next_node own.out_fibre out
      (ap (λ (x : NodeId). x.0) (fits.ends n g here ∙ sym (ends-at route e) ∙ ap (place_at route e) (sym last)
      ∙ sym place.2)))
    where
      go : (i : ℕ) → i ≤ length route → n ≡ place_at route e i → (i ≡ length route → ⊥) →
          (j : ℕ) × (j < length route) × (n ≡ place_at route e j)
      go i most is never = (i, (omega (arith, most, never)), is)

  -- a leg with a fibre in stands behind one
  behind-hop : (n : NodeId) (g : Leg) (f : Fibre) → leg_at (after t start events) l n ≡ Some g →
      g.in_fibre ≡ Some f → (i : ℕ) × (i < length route) × (n ≡ place_at route e (suc i))
  behind-hop n g f here into =
      let place = place-of t s quiet r l route e fits n g here in
      let own = facts-of n g here in
      go place.0 place.1 place.2 (λ first.
      not-end g.lsp.ingress.0 n.0 g.prev g.in_fibre f own.prev own.in_fibre into
      (ap (λ (x : NodeId). x.0) (own-ingress ∙ sym (begins-at t l.ingress e route fits.leads fits.long)
      ∙ ap (place_at route e) (sym first) ∙ sym place.2)))
    where
      own-ingress : g.lsp.ingress ≡ l.ingress
      own-ingress = ap (λ (k : Lsp). k.ingress) (found-lsp l (s.nodes n.0).legs g here)

      go : (i : ℕ) → i ≤ length route → n ≡ place_at route e i → (i ≡ 0 → ⊥) →
          (j : ℕ) × (j < length route) × (n ≡ place_at route e (suc j))
      go zero most is never = absurd (never refl)
      go (suc i) most is never = (i, (omega (arith, most)), is)

  -- the leg of the LSP at a place
  leg-of : (n : NodeId) (g : Leg) → leg_at (after t start events) l n ≡ Some g → (i : ℕ) → i ≤ length route →
      (h : Leg) × (leg_at (after t start events) l (place_at route e i) ≡ Some h)
  leg-of n g here i most = (let h = leg-there t s quiet r l route e fits n g here i most in (h.0, h.1))

  there-too : (n m : NodeId) (g : Leg) → n ≡ m → leg_at (after t start events) l n ≡ Some g →
      leg_at (after t start events) l m ≡ Some g
  there-too n m g is here = subst (λ k. leg_at (after t start events) l k ≡ Some g) is here

  -- What is sent

  module _ (f : Fibre) (x : ℕ) (u d : NodeId) (from : sender_of t f ≡ Some u) (to : receiver_of t f ≡ Some d) where
    taken-on : (g : Leg) → leg_at (after t start events) l u ≡ Some g → g.out_fibre ≡ Some f → g.out_label ≡ Some x →
        HasLeg (after t start events) l d (Arrives f x)
    taken-on g here fibre label =
        let on = before-hop u g f here fibre in
        let i = on.0 in
        let hop = hop-is on.0 on.1 in
        let near = there-too u (at i) g on.2 here in
        let h = leg-of u g here (suc i) on.1 in
        let out : fibre_out hop.link (at i) ≡ f =
        same_Some _ _ (sym (hop.hop.out_fibre g near) ∙ fibre) in
        let end : at (suc i) ≡ d = same_Some _ _ (sym hop.receiver ∙ ap (receiver_of t) out ∙ to) in
        let into : h.0.in_fibre ≡ Some f =
        hop.hop.in_fibre h.0 h.1 ∙ ap Some (sym hop.hop.fibre ∙ out) in
        let y = one-there h.0.in_fibre f h.0.in_label (labelled (at (suc i)) h.0 h.1).0 into in
        let one : x ≡ y.0 = hop.hop.labels g h.0 x y.0 near h.1 label y.1 in
        (h.0, there-too (at (suc i)) d h.0 end h.1, Onward into (y.1 ∙ ap Some (sym one)))

    taken-back : (g : Leg) (b : Fibre) → leg_at (after t start events) l u ≡ Some g → g.in_fibre ≡ Some b →
        AreOpposite b f → g.back_out ≡ Some x → HasLeg (after t start events) l d (Arrives f x)
    taken-back g b here fibre opposite label =
        let on = behind-hop u g b here fibre in
        let i = on.0 in
        let hop = hop-is on.0 on.1 in
        let far = there-too u (at (suc i)) g on.2 here in
        let h = leg-of u g here i (let below = on.1 in omega (arith, below)) in
        let out : fibre_out hop.link (at i) ≡ b =
        same_Some _ _ (ap Some hop.hop.fibre ∙ sym (hop.hop.in_fibre g far) ∙ fibre) in
        let end : at i ≡ d =
        same_Some _ _ (sym hop.sender ∙ ap (sender_of t) out ∙ sym (turned-round t b f opposite).0 ∙ to) in
        let back : g.back_out ≡ h.0.back_in = hop.hop.back h.0 g h.1 far (stands u g here) in (
          h.0,
          there-too (at i) d h.0 end h.1,
          Returning (hop.hop.out_fibre h.0 h.1 ∙ ap Some out) opposite (sym back ∙ label),
        )

    sent-on : (h : Leg) → leg_at (after t start events) l d ≡ Some h → h.in_fibre ≡ Some f → h.in_label ≡ Some x →
        HasLeg (after t start events) l u (Leaves f x)
    sent-on h here fibre label =
        let on = behind-hop d h f here fibre in
        let i = on.0 in
        let hop = hop-is on.0 on.1 in
        let far = there-too d (at (suc i)) h on.2 here in
        let g = leg-of d h here i (let below = on.1 in omega (arith, below)) in
        let out : fibre_out hop.link (at i) ≡ f =
        same_Some _ _ (ap Some hop.hop.fibre ∙ sym (hop.hop.in_fibre h far) ∙ fibre) in
        let start_at : at i ≡ u = same_Some _ _ (sym hop.sender ∙ ap (sender_of t) out ∙ from) in
        let leaves : g.0.out_fibre ≡ Some f = hop.hop.out_fibre g.0 g.1 ∙ ap Some out in
        let y = one-there g.0.out_fibre f g.0.out_label (labelled (at i) g.0 g.1).1 leaves in
        let one : y.0 ≡ x = hop.hop.labels g.0 h y.0 x g.1 far y.1 label in
        (g.0, there-too (at i) u g.0 start_at g.1, GoesOn leaves (y.1 ∙ ap Some one))

    sent-back : (h : Leg) (b : Fibre) → leg_at (after t start events) l d ≡ Some h → h.out_fibre ≡ Some b →
        AreOpposite b f → h.back_in ≡ Some x → HasLeg (after t start events) l u (Leaves f x)
    sent-back h b here fibre opposite label =
        let on = before-hop d h b here fibre in
        let i = on.0 in
        let hop = hop-is on.0 on.1 in
        let near = there-too d (at i) h on.2 here in
        let g = leg-of d h here (suc i) on.1 in
        let out : fibre_out hop.link (at i) ≡ b =
        same_Some _ _ (sym (hop.hop.out_fibre h near) ∙ fibre) in
        let start_at : at (suc i) ≡ u =
        same_Some _ _ (sym hop.receiver ∙ ap (receiver_of t) out ∙ sym (turned-round t b f opposite).1 ∙ from) in
        let back : g.0.back_out ≡ h.back_in =
        hop.hop.back h g.0 near g.1 (stands (at (suc i)) g.0 g.1) in (
          g.0,
          there-too (at (suc i)) u g.0 start_at g.1,
          GoesBack (hop.hop.in_fibre g.0 g.1 ∙ ap Some (sym hop.hop.fibre ∙ out)) opposite (back ∙ label),
        )

    pub is-taken : HasLeg (after t start events) l u (Leaves f x) → HasLeg (after t start events) l d (Arrives f x)
    is-taken (g, here, GoesOn fibre label) = taken-on g here fibre label
    is-taken (g, here, GoesBack fibre opposite label) = taken-back g _ here fibre opposite label

    pub is-sent : HasLeg (after t start events) l d (Arrives f x) → HasLeg (after t start events) l u (Leaves f x)
    is-sent (h, here, Onward fibre label) = sent-on h here fibre label
    is-sent (h, here, Returning fibre opposite label) = sent-back h _ here fibre opposite label

-- over every network and every run
pub each_sent_is_taken : EachSentIsTakenAtRest
each_sent_is_taken t events run quiet = record {
  taken = λ f x u d l from to at_u.
      let its = routed t events run quiet l u at_u.0 at_u.1 in
      is-taken t events run quiet its.role l its.route its.end its.fits f x u d from to at_u;
  sent = λ f x u d l from to at_d.
      let its = routed t events run quiet l d at_d.0 at_d.1 in
      is-sent t events run quiet its.role l its.route its.end its.fits f x u d from to at_d;
}
