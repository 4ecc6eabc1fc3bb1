-- A label that the node u sends, or is about to be given, for an LSP is taken by the LSP's leg at the other end.
use Rattle.std.proofs.{Common.{◌≡◌, ◌≢◌, ◌<◌, ℕ, suc, Bool, true, false, nat_eq, List, [], ◌∷◌, refl, sym, ap, subst, ◌∙◌, arith, inl, inr}, lemmas.Option.same_Some}
use Rattle.std.specs.Prelude.{◌⊎◌, Option, Some, None}
use Rattle.ason_base.specs.{Network.{Network, receiver_of, sender_of}, declared.ids.Fibre.Fibre, declared.ids.Lsp.Lsp, declared.ids.NodeId.NodeId, declared.calls.Phase.Phase, declared.calls.Phase.TheVariants.{Asked, Held, Armed, Live, Closing, Falling}, declared.messages.Msg.Msg, declared.messages.Msg.TheVariants.{Path, Resv, PathTear, PathErr, Notify}, declared.tables.Leg.Leg}
use Rattle.ason_base.proofs.{Bools.and-left, JoinedEnds.same-node}
use Rattle.mesh_rules.specs.Legs.{is_closing, is_label, reverse, reverse_of, sends_label, takes}
use Rattle.mesh_nodes.proofs.LabelPlaces.{back_in-taken, is-at}
use Rattle.lsp_laws.specs.HopShapes.{AskedLeg, leg_kind, phase_kind}
use Rattle.lsp_laws.proofs.{hops.Chain.{Chain, HopAt, LegFitsPlan, OnRoute, PhaseFits}, hops.Plans.{Plan, IsPlanRoute, fibre_at, hops, link_at, lt_true, node_at}, hops.Purposes.{Carries, DownFits, Each, Guards, HasUpstream, Purpose, UpFits, back_in_of, back_out_of, in_label_of, out_label_of}, hops.RowStates.is_reserved, nodes.LegParts.takes-by}
use Rattle.mesh_laws.specs.HeardLaw.{brings, heard, heard_one, sends_of}
use Rattle.mesh_laws.proofs.{sent.Answers.{AllOf, back-is-back, one, out-is-in}, sent.Ends.one-fibre, sent.SendsOver.{SendsBack, SendsOnward, SendsOver, receiver_here, receiver_there, sends-over}, sent.Steps.takes_if_there}

-- Phases

-- a leg beyond Asked has a label in away from the ingress
pub in-of : (q : Purpose) (f : Phase) (i n : ℕ) (enter leave : Option ℕ) → PhaseFits q f (suc i) n enter leave →
    is_reserved (phase_kind f) ≡ true → (y : ℕ) × (enter ≡ Some y)
in-of q Asked i n enter leave fits e = absurd (cc e)
in-of Carries Held i n enter leave fits e = absurd fits
in-of (Guards w r) Held i n enter leave fits e = fits.0
in-of Carries Armed i n enter leave fits e = absurd fits
in-of (Guards w r) Armed i n enter leave fits e = fits.1
in-of q Live i n enter leave fits e = fits.0
in-of q Closing i n enter leave fits e = absurd (cc e)
in-of q Falling i n enter leave fits e = absurd (cc e)

-- an Asked leg has no label out
out-of : (q : Purpose) (f : Phase) (i n : ℕ) (enter leave : Option ℕ) → PhaseFits q f i n enter leave →
    phase_kind f ≡ AskedLeg → leave ≡ None
out-of q Asked i n enter leave fits e = fits.2
out-of q _ i n enter leave fits e = absurd (cc e)

-- Messages

-- what was brought up a hop came over the hop's link
pub up-link : (p : Plan) (i : ℕ) (f : Fibre) (x : ℕ) (m : Msg) → UpFits p i m → brings f x m ≡ true →
    f.link.0 ≡ (link_at p i).0
up-link p i f x (Path l e k route set up r) fits h = absurd fits
up-link p i f x (Resv l e k y) fits h =
    let here : nat_eq k.0 f.link.0 ≡ true = and-left (nat_eq k.0 f.link.0) (nat_eq y x) h in
    let over : k ≡ link_at p i = fits in
    let link : k.0 ≡ f.link.0 = grind arith in sym link ∙ ap (λ n. n.0) over
up-link p i f x (PathTear l e k) fits h = absurd (cc h)
up-link p i f x (PathErr l e at gone code) fits h = absurd (cc h)
up-link p i f x (Notify l e at k code) fits h = absurd (cc h)

-- and so did what was brought down
pub down-link : (q : Purpose) (p : Plan) (i : ℕ) (f : Fibre) (x : ℕ) (b : Option ℕ) (m : Msg) → DownFits q p i m →
    HasUpstream b m → brings f x m ≡ true → f.link.0 ≡ (link_at p i).0
down-link q p i f x b (Path l e k route set up r) fits label h =
    let here : nat_eq k.0 f.link.0 ≡ true = and-left (nat_eq k.0 f.link.0) (is_label up x) h in
    let over : k ≡ link_at p i = fits.1 in
    let link : k.0 ≡ f.link.0 = grind arith in sym link ∙ ap (λ n. n.0) over
down-link q p i f x b (Resv l e k y) fits label h = absurd label
down-link q p i f x b (PathTear l e k) fits label h = absurd (cc h)
down-link q p i f x b (PathErr l e at gone code) fits label h = absurd (cc h)
down-link q p i f x b (Notify l e at k code) fits label h = absurd (cc h)

-- what is had after these messages was had before, or one of them brought it
brought-by : (P : Type 0) (Q : Msg → Type 0) (f : Fibre) (x : ℕ) (l : Lsp) (ms : List Msg) (b : Bool) → AllOf l ms →
    Each Q ms → ((m : Msg) → Q m → brings f x m ≡ true → P) → (b ≡ true → P) → heard f x l ms b ≡ true → P
brought-by P Q f x l [] b own each link was h = was h
brought-by P Q f x l (m ∷ ms) b own each link was h =
    brought-by P Q f x l ms (heard_one f x l m b) own.1 each.1 link (λ may. now (one f x l m b own.0 may).1) h
  where
    now : (brings f x m ≡ true) ⊎ (b ≡ true) → P
    now (inl brought) = link m each.0 brought
    now (inr had) = was had

both-each : (P Q : Msg → Type 0) (ms : List Msg) → Each P ms → Each Q ms → Each (λ m. P m × Q m) ms
both-each P Q [] a b = tt
both-each P Q (m ∷ ms) a b = ((a.0, b.0), both-each P Q ms a.1 b.1)

-- Along the route

module _ (t : Network) (q : Purpose) (l : Lsp) (p : Plan) (from : NodeId) (route : IsPlanRoute t from p)
    (leg : NodeId → Option Leg) (mail : NodeId → NodeId → List Msg) (chain : Chain t q l p leg mail)
    (own : (a b : NodeId) → AllOf l (mail a b))
    (torn : (n : NodeId) (g : Leg) → leg n ≡ Some g → is_closing g.phase ≡ true → g.back_out ≡ None)
    (f : Fibre) (x : ℕ) (u d : NodeId) (apart : u.0 ≢ d.0) (from_u : sender_of t f ≡ Some u)
    (to_d : receiver_of t f ≡ Some d) where
  -- the leg of this node takes the label, where it has this label at the fibre
  takes_at : (i : ℕ) → d ≡ node_at p i → (g : Leg) → leg (node_at p i) ≡ Some g → takes f x g ≡ true →
      takes_if_there f x (leg d) ≡ true
  takes_at i at_d g e here =
      subst (λ n. takes_if_there f x (leg n) ≡ true) (sym at_d) (subst (λ o. takes_if_there f x o ≡ true) (sym e) here)

  -- what is heard of d by u is heard of these nodes
  heard_at : (a c : NodeId) (b : Bool) → d ≡ a → u ≡ c → heard f x l (mail d u) b ≡ true →
      heard f x l (mail a c) b ≡ true
  heard_at a c b at_d at_u h =
      subst (λ n. heard f x l (mail a n) b ≡ true) at_u (subst (λ n. heard f x l (mail n u) b ≡ true) at_d h)

  -- over hop i, from u to d
  onward_takes : (i : ℕ) (b : Bool) → i < hops p → u ≡ node_at p i → d ≡ node_at p (suc i) → fibre_at t p i ≡ f →
      (b ≡ true → out_label_of (leg (node_at p i)) ≡ Some x) → heard f x l (mail d u) b ≡ true →
      takes_if_there f x (leg d) ≡ true
  onward_takes i b small at_u at_d is was h =
      taken (leg (node_at p (suc i))) refl
      (out-is-in q p i (leg (node_at p i)) (leg (node_at p (suc i))) (mail (node_at p i) (node_at p (suc i)))
      (mail (node_at p (suc i)) (node_at p i)) f x l b hop.shape hop.rest (own (node_at p (suc i)) (node_at p i))
      (asked (leg (node_at p i)) refl) (has (leg (node_at p (suc i))) refl) was
      (heard_at (node_at p (suc i)) (node_at p i) b at_d at_u h))
    where
      hop : HopAt q p leg mail i
      hop = chain.each i small

      asked : (o : Option Leg) → leg (node_at p i) ≡ o → leg_kind o ≡ AskedLeg → out_label_of o ≡ None
      asked None e kind = refl
      asked (Some g) e kind =
          let fits : LegFitsPlan t q l p i g = rw e at (chain.fits i (omega arith)) in
          out-of q g.phase i (hops p) g.in_label g.out_label fits.phase kind

      has : (o : Option Leg) → leg (node_at p (suc i)) ≡ o → is_reserved (leg_kind o) ≡ true →
          (y : ℕ) × (in_label_of o ≡ Some y)
      has None e reserved = absurd (cc reserved)
      has (Some g) e reserved =
          let fits : LegFitsPlan t q l p (suc i) g = rw e at (chain.fits (suc i) (omega arith)) in
          in-of q g.phase i (hops p) g.in_label g.out_label fits.phase reserved

      taken : (o : Option Leg) → leg (node_at p (suc i)) ≡ o → in_label_of (leg (node_at p (suc i))) ≡ Some x →
          takes_if_there f x (leg d) ≡ true
      taken None e label = absurd (let none : ◌≡◌ {A = Option ℕ} None (Some x) = rw e at label in cc none)
      taken (Some g) e label =
          let fits : LegFitsPlan t q l p (suc i) g = rw e at (chain.fits (suc i) (omega arith)) in
          let enters : g.in_label ≡ Some x = rw e at label in
          takes_at (suc i) at_d g e (takes-by f x g (fits.in_fibre ∙ ap Some is) enters)

  -- over hop i, from u back to d
  back_takes : (i : ℕ) (b : Bool) → i < hops p → u ≡ node_at p (suc i) → d ≡ node_at p i →
      reverse (fibre_at t p i) ≡ f → (b ≡ true → back_out_of (leg (node_at p (suc i))) ≡ Some x) →
      heard f x l (mail d u) b ≡ true → takes_if_there f x (leg d) ≡ true
  back_takes i b small at_u at_d is was h =
      taken (leg (node_at p i)) refl
      (back-is-back q p i (leg (node_at p i)) (leg (node_at p (suc i))) (mail (node_at p i) (node_at p (suc i)))
      (mail (node_at p (suc i)) (node_at p i)) f x l b (chain.each i small).rest
      (own (node_at p i) (node_at p (suc i))) (λ g e. torn (node_at p (suc i)) g e) was
      (heard_at (node_at p i) (node_at p (suc i)) b at_d at_u h))
    where
      taken : (o : Option Leg) → leg (node_at p i) ≡ o → back_in_of (leg (node_at p i)) ≡ Some x →
          takes_if_there f x (leg d) ≡ true
      taken None e label = absurd (let none : ◌≡◌ {A = Option ℕ} None (Some x) = rw e at label in cc none)
      taken (Some g) e label =
          let fits : LegFitsPlan t q l p i g = rw e at (chain.fits i (omega arith)) in
          let back : g.back_in ≡ Some x = rw e at label in
          let leaves : g.out_fibre ≡ Some (fibre_at t p i) = fits.out_fibre ∙ rw (lt_true small) refl in
          takes_at i at_d g e (back_in-taken g f x
          (is-at (reverse_of g.out_fibre) g.back_in f x (ap reverse_of leaves ∙ ap Some is) back))

  -- where the leg sends the label, its place tells the hop
  sent_takes : (g : Leg) → leg u ≡ Some g → sends_label f x g ≡ true → heard f x l (mail d u) true ≡ true →
      takes_if_there f x (leg d) ≡ true
  sent_takes g e sent h = go over.way
    where
      over : SendsOver t q l p from route leg mail chain f x u g
      over = sends-over t q l p from route leg mail chain f x u g e sent

      at_d : d ≡ over.to
      at_d = same_Some _ _ (sym to_d ∙ over.receiver)

      go : SendsOnward t q l p from route leg mail chain f x u over.to g ⊎
          SendsBack t q l p from route leg mail chain f x u over.to g → takes_if_there f x (leg d) ≡ true
      go (inl on) =
          onward_takes on.place true on.small on.here (at_d ∙ on.there) on.fibre
          (λ had. rw (sym (ap leg on.here) ∙ e) on.label) h
      go (inr back) =
          back_takes back.place true back.small back.here (at_d ∙ back.there) back.fibre
          (λ had. rw (sym (ap leg back.here) ∙ e) back.label) h

  -- where it doesn't, a message tells it
  heard_takes : heard f x l (mail d u) false ≡ true → takes_if_there f x (leg d) ≡ true
  heard_takes here = on (chain.ways d u)
    where
      on : (mail d u ≡ []) ⊎ OnRoute p d u → takes_if_there f x (leg d) ≡ true
      on (inl none) = absurd (let never : false ≡ true = rw none at here in cc never)
      on (inr (i, small, inl (at_d, at_u))) =
          let d_is : d ≡ node_at p i = same-node d (node_at p i) at_d in
          let u_is : u ≡ node_at p (suc i) = same-node u (node_at p (suc i)) at_u in
          let rest = (chain.each i small).rest in
          let back = back_in_of (leg (node_at p i)) in
          let link : f.link.0 ≡ (link_at p i).0 =
          brought-by (f.link.0 ≡ (link_at p i).0) (λ m. DownFits q p i m × HasUpstream back m) f x l
          (mail (node_at p i) (node_at p (suc i))) false (own (node_at p i) (node_at p (suc i)))
          (both-each (DownFits q p i) (HasUpstream back) _ rest.going_down rest.upstream)
          (λ m fits brought. down-link q p i f x back m fits.0 fits.1 brought) (λ never. absurd (cc never))
          (heard_at (node_at p i) (node_at p (suc i)) false d_is u_is here) in
          let to : receiver_of t (reverse (fibre_at t p i)) ≡ Some d =
          receiver_there t q l p from route leg mail chain i small ∙ ap Some (sym d_is) in
          back_takes i false small u_is d_is
          (sym (one-fibre t f (reverse (fibre_at t p i)) u d apart link to_d from_u to)) (λ never. absurd (cc never))
          here
      on (inr (i, small, inr (at_d, at_u))) =
          let d_is : d ≡ node_at p (suc i) = same-node d (node_at p (suc i)) at_d in
          let u_is : u ≡ node_at p i = same-node u (node_at p i) at_u in
          let link : f.link.0 ≡ (link_at p i).0 =
          brought-by (f.link.0 ≡ (link_at p i).0) (UpFits p i) f x l
          (mail (node_at p (suc i)) (node_at p i)) false (own (node_at p (suc i)) (node_at p i))
          (chain.each i small).rest.going_up (λ m fits brought. up-link p i f x m fits brought)
          (λ never. absurd (cc never)) (heard_at (node_at p (suc i)) (node_at p i) false d_is u_is here) in
          let to : receiver_of t (fibre_at t p i) ≡ Some d =
          receiver_here t q l p from route leg mail chain i small ∙ ap Some (sym d_is) in
          onward_takes i false small u_is d_is (sym (one-fibre t f (fibre_at t p i) u d apart link to_d from_u to))
          (λ never. absurd (cc never)) here

  -- all that u may send for the LSP once it has heard what is under way from d, d takes
  pub heard-takes : heard f x l (mail d u) (sends_of f x (leg u)) ≡ true → takes_if_there f x (leg d) ≡ true
  heard-takes h = go (leg u) refl (sends_of f x (leg u)) refl h
    where
      go : (o : Option Leg) → leg u ≡ o → (b : Bool) → sends_of f x (leg u) ≡ b → heard f x l (mail d u) b ≡ true →
          takes_if_there f x (leg d) ≡ true
      go None is true e h = absurd (let never : false ≡ true = rw is at e in cc never)
      go (Some g) is true e h = sent_takes g is (rw is at e) h
      go o is false e h = heard_takes h
