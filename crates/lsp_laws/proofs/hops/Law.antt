-- From what is carried along a run to what is said of each hop.
use Rattle.std.proofs.{Common.{◌≡◌, ◌<◌, ◌≤◌, ℕ, zero, suc, true, List, [], ◌∷◌, length, refl, sym, ap, ◌∙◌, subst, arith, inl, inr}, lemmas.Option.{slice_get_within, slice_get_past}, lemmas.Bool.cases_lt}
use Rattle.std.specs.{Prelude.{◌⊎◌, slice_get, Option, Some, None}, List.AllByRecursion}
use Rattle.ason_base.specs.{Labels.has, Network.{Network, find_link, other_end}, declared.ids.Lsp.Lsp, declared.ids.NodeId.NodeId, declared.steps.Step.Step, declared.calls.Phase.Phase, declared.calls.Phase.TheVariants.{Asked, Held, Armed, Live, Closing, Falling}, declared.messages.Msg.Msg, declared.messages.Msg.TheVariants.{Path, Resv, PathTear, PathErr, Notify}, declared.tables.Leg.Leg}
use Rattle.ason_base.proofs.JoinedEnds.{same-node}
use Rattle.mesh_rules.specs.{Legs.reserved, Machine.Mesh}
use Rattle.lsp_laws.specs.{HopShapes.leg_kind, HopLaw.{leg_at, mail_between, notices_between, EachLabel, EachUpstream, HopFits, StepFits, IsHopOfRoute, RouteFits, LspFits, GoesUp, IsBeyond, NamesBeyond}}
use Rattle.lsp_laws.proofs.{hops.GoingUp.let-go-confirmed, hops.Notices.{ComesUp, NoticeFits}, hops.Plans.{Plan, hops, plan, node_at, link_at, IsPlanRoute, distinct, lt_true, joined, fibre_in_is, fibre_out_is}, hops.RowStates.is_reserved, hops.Purposes.{Purpose, Carries, Guards, purpose_role, UpMsgFits, Each, HasUpstream, LabelsMeet}, hops.Chain.{LegFitsPlan, PhaseFits, IsPlace, OnRoute, Chain}, hops.LegKinds.beyond_reserved, hops.Planned.{Planned, Routes, Follows}}

meets : (a b : Option ℕ) (x y : ℕ) → LabelsMeet a b → a ≡ Some x → b ≡ Some y → x ≡ y
meets None b x y h e f = cc
meets (Some v) None x y h e f = cc
meets (Some v) (Some w) x y h e f = let p : v ≡ x = cc in let q : w ≡ y = cc in sym p ∙ h ∙ q

each_label : (g h : Leg) (ms : List Msg) → is_reserved (leg_kind (Some h)) ≡ true →
    Each (UpMsgFits (Some g) (Some h)) ms →
    EachLabel (λ x. (h.in_label ≡ Some x) × (has g.sent x ≡ true)) ms
each_label g h [] reserved all = tt
each_label g h (Path l e k route set up r ∷ ms) reserved all = each_label g h ms reserved all.1
each_label g h (Resv l e k x ∷ ms) reserved all = (all.0 reserved, each_label g h ms reserved all.1)
each_label g h (PathTear l e k ∷ ms) reserved all = each_label g h ms reserved all.1
each_label g h (PathErr l e at gone code ∷ ms) reserved all = each_label g h ms reserved all.1
each_label g h (Notify l e at k code ∷ ms) reserved all = each_label g h ms reserved all.1

each_upstream : (b : Option ℕ) (ms : List Msg) → Each (HasUpstream b) ms → EachUpstream (λ up. up ≡ b) ms
each_upstream b [] all = tt
each_upstream b (Path l e k route set up r ∷ ms) all = (all.0, each_upstream b ms all.1)
each_upstream b (Resv l e k x ∷ ms) all = absurd all.0
each_upstream b (PathTear l e k ∷ ms) all = each_upstream b ms all.1
each_upstream b (PathErr l e at gone code ∷ ms) all = each_upstream b ms all.1
each_upstream b (Notify l e at k code ∷ ms) all = each_upstream b ms all.1

module _ (t : Network) (q : Purpose) (s : Mesh) (l : Lsp) (p : Plan) (route : IsPlanRoute t l.ingress p)
    (chain : Chain t q l p (leg_at s l) (mail_between s l)) where
  fits_at : (i : ℕ) (g : Leg) → i ≤ hops p → leg_at s l (node_at p i) ≡ Some g → LegFitsPlan t q l p i g
  fits_at i g small here = rw here at (chain.fits i small)

  hop_fits : (i : ℕ) (below : i < hops p) →
      HopFits s (purpose_role q) l (route.links i below).link (node_at p i) (node_at p (suc i))
  hop_fits i below =
      let far = distinct t l.ingress p route i (suc i) (omega arith) (omega arith) (omega arith) in
      let over = route.links i below in
      let hop = chain.each i below in
      record {
        shape = hop.shape;
        onward =
            λ e. distinct t l.ingress p route (suc i) 0 (omega arith) (omega arith) (omega arith)
            (e ∙ ap (λ n. n.0) (sym route.first));
        fibre = (joined t (link_at p i) (node_at p i) (node_at p (suc i)) far over).fibre;
        out_fibre =
            λ g here. (fits_at i g (omega arith) here).out_fibre ∙ rw (lt_true below)
            (ap Some (sym (fibre_out_is t p i far over)));
        in_fibre = λ h here. (fits_at (suc i) h below here).in_fibre ∙ ap Some (sym (fibre_in_is t p i over));
        labels = λ g h x y near there e f. meets g.out_label h.in_label x y (rw (near, there) at hop.rest.labels) e f;
        answers = λ g h near there beyond. each_label g h (mail_between s l (node_at p (suc i)) (node_at p i))
            (beyond_reserved h.phase beyond) (rw (near, there) at hop.rest.answers);
        back = λ g h near there stands. (let meets = rw (near, there) at hop.rest.back in meets stands);
        upstream = λ g near. each_upstream g.back_in (mail_between s l (node_at p i) (node_at p (suc i)))
            (rw near at hop.rest.upstream);
        confirmed = λ g x near torn out gone. let-go-confirmed q p i g (leg_at s l (node_at p (suc i))) _ _ x
            (rw near at hop.shape) (rw near at hop.rest) torn out gone;
      }

pub step_at : (route : List Step) (i : ℕ) → i < length route → (hop : Step) × (slice_get route i ≡ Some hop)
step_at [] i small = absurd (omega arith)
step_at (h ∷ route) zero small = (h, refl)
step_at (h ∷ route) (suc i) small = step_at route i (omega arith)

module _ (t : Network) (s : Mesh) (o : Routes) (l : Lsp) (q : Purpose) (steps : List Step) (e : NodeId)
    (pl : Planned t s o l q (plan steps e)) where
  last_is : node_at (plan steps e) (length steps) ≡ e
  last_is = rw (slice_get_past steps (length steps) (omega arith)) refl

  pub link_there : (i : ℕ) (hop : Step) (there : slice_get steps i ≡ Some hop) (below : i < length steps) →
      find_link t hop.link ≡ Some (pl.route.links i below).link
  link_there i hop there below =
      let is : link_at (plan steps e) i ≡ hop.link = rw there refl in
      ap (find_link t) (sym is) ∙ (pl.route.links i below).found

  pub node_is : (i : ℕ) (hop : Step) → slice_get steps i ≡ Some hop → node_at (plan steps e) i ≡ hop.node
  node_is i hop there = rw there refl

  pub far_is : (i : ℕ) (hop : Step) (there : slice_get steps i ≡ Some hop) (below : i < length steps) →
      node_at (plan steps e) (suc i) ≡ other_end (pl.route.links i below).link hop.node
  far_is i hop there below =
      sym (pl.route.links i below).far ∙ ap (other_end (pl.route.links i below).link) (node_is i hop there)

  step_fits : (i : ℕ) (hop : Step) → slice_get steps i ≡ Some hop → StepFits t s (purpose_role q) l hop
  step_fits i hop there =
      let below : i < length steps = slice_get_within steps i hop there in
      record {
        link = (pl.route.links i below).link;
        found = link_there i hop there below;
        fits = subst (λ n. HopFits s (purpose_role q) l (pl.route.links i below).link hop.node n)
            (far_is i hop there below)
            (subst (λ n. HopFits s (purpose_role q) l (pl.route.links i below).link n (node_at (plan steps e) (suc i)))
            (node_is i hop there)
            (hop_fits t q s l (plan steps e) pl.route pl.chain i below));
      }

  place_of : (n : NodeId) (g : Leg) → leg_at s l n ≡ Some g → IsPlace (plan steps e) n
  place_of n g here = elim (pl.chain.legs n) [ inl none ↦ absurd (cc (none, here)) | inr place ↦ place ]

  fits_place : (n : NodeId) (g : Leg) → leg_at s l n ≡ Some g → (i : ℕ) → i ≤ length steps →
      n ≡ node_at (plan steps e) i → LegFitsPlan t q l (plan steps e) i g
  fits_place n g here i small is = fits_at t q s l (plan steps e) pl.route pl.chain i g small (rw (← is) here)

  end_reserved : (g : Leg) → LegFitsPlan t q l (plan steps e) (length steps) g →
      (g.phase ≡ reserved (purpose_role q)) ⊎ (g.phase ≡ Live)
  end_reserved g fits = go q g.phase fits.phase
    where
      go : (q : Purpose) (f : Phase) → PhaseFits q f (length steps) (length steps) g.in_label g.out_label →
          (f ≡ reserved (purpose_role q)) ⊎ (f ≡ Live)
      go q Asked fits = (let less : length steps < length steps = fits.0 in absurd (omega arith))
      go q Closing fits = (let less : length steps < length steps = fits.0 in absurd (omega arith))
      go Carries Armed fits = absurd fits
      go (Guards w r) Armed fits = (let less : length steps < length steps = fits.0 in absurd (omega arith))
      go Carries Falling fits = absurd fits
      go (Guards w r) Falling fits = (let less : length steps < length steps = fits.0 in absurd (omega arith))
      go Carries Held fits = absurd fits
      go (Guards w r) Held fits = inl refl
      go q Live fits = inr refl

  on_step : (n : NodeId) → (i : ℕ) → i ≤ length steps → n ≡ node_at (plan steps e) i →
      (i < length steps) ⊎ (length steps ≤ i) →
      (n ≡ e) ⊎ ((i : ℕ) × (hop : Step) × (slice_get steps i ≡ Some hop) × (n ≡ hop.node))
  on_step n i small is (inl below) = let st = step_at steps i below in inr (i, st.0, st.1, is ∙ node_is i st.0 st.1)
  on_step n i small is (inr end) =
      let at_end : i ≡ length steps = omega arith in inl (is ∙ ap (node_at (plan steps e)) at_end ∙ last_is)

  on_hop : (a b : NodeId) → OnRoute (plan steps e) a b → IsHopOfRoute t steps a b
  on_hop a b (i, below, ends) =
      let st = step_at steps i below in
      record {
        place = i;
        hop = st.0;
        link = (pl.route.links i below).link;
        there = st.1;
        found = link_there i st.0 st.1 below;
        ends = elim ends [
          | inl h ↦ inl (same-node a _ h.0 ∙ node_is i st.0 st.1, same-node b _ h.1 ∙ far_is i st.0 st.1 below)
          | inr h ↦ inr (same-node a _ h.0 ∙ far_is i st.0 st.1 below, same-node b _ h.1 ∙ node_is i st.0 st.1)
        ];
      }

  place_fits : (n : NodeId) (g : Leg) → leg_at s l n ≡ Some g → (i : ℕ) × LegFitsPlan t q l (plan steps e) i g
  place_fits n g here =
      let at_place = place_of n g here in
      (at_place.0, fits_place n g here at_place.0 at_place.1 (same-node n _ at_place.2))

  -- a place of the route is its end or that of a step
  beyond : (n : NodeId) (i j : ℕ) → i < j → j ≤ length steps → n ≡ node_at (plan steps e) j → IsBeyond steps e i n
  beyond n i j after small is = elim (cases_lt j (length steps)) [
    | inl below ↦ (let st = step_at steps j below in inr (j, st.0, after, st.1, is ∙ node_is j st.0 st.1))
    | inr end ↦ (let at_end : j ≡ length steps = omega arith in
        inl (is ∙ ap (node_at (plan steps e)) at_end ∙ last_is))
  ]

  names_beyond : (i : ℕ) (m : Msg) → NoticeFits (plan steps e) i m → NamesBeyond steps e i m
  names_beyond i (Path k d link route set up r) fits = absurd fits
  names_beyond i (Resv k d link x) fits = absurd fits
  names_beyond i (PathTear k d link) fits = absurd fits
  names_beyond i (PathErr k d at gone code) fits = absurd fits
  names_beyond i (Notify k d at link code) fits =
      let after = fits.beyond in
      let small = fits.within in
      beyond at i (suc fits.place) (omega arith) (omega arith) fits.node

  goes_up : (a b : NodeId) (m : Msg) → ComesUp (plan steps e) a b m → GoesUp t steps e a b m
  goes_up a b m up =
      let st = step_at steps up.place up.below in
      record {
        place = up.place;
        hop = st.0;
        link = (pl.route.links up.place up.below).link;
        there = st.1;
        found = link_there up.place st.0 st.1 up.below;
        from = same-node a _ up.from ∙ far_is up.place st.0 st.1 up.below;
        to = same-node b _ up.to ∙ node_is up.place st.0 st.1;
        names = names_beyond up.place m up.names;
      }

  each_up : (a b : NodeId) (ms : List Msg) → Each (ComesUp (plan steps e) a b) ms →
      AllByRecursion (GoesUp t steps e a b) ms
  each_up a b [] each = tt
  each_up a b (m ∷ ms) each = (goes_up a b m each.0, each_up a b ms each.1)

  pub route_fits : RouteFits t s (purpose_role q) l steps e
  route_fits = record {
    long = pl.route.long;
    leads = pl.made;
    hops = step_fits;
    egress = λ g here. end_reserved g (fits_place e g here (length steps) (omega arith) (sym last_is));
    legs = λ n g here.
        (let at_place = place_of n g here in
        on_step n at_place.0 at_place.1 (same-node n _ at_place.2) (cases_lt at_place.0 (length steps)));
    mail = λ a b. elim (pl.chain.ways a b) [ inl none ↦ inl none | inr on ↦ inr (on_hop a b on) ];
    roles = λ n g here. (place_fits n g here).1.role;
    ends = λ n g here. (place_fits n g here).1.egress;
    notices = λ a b. each_up a b (notices_between s l a b) (pl.notices a b);
  }

pub lsp_fits : (t : Network) (s : Mesh) (o : Routes) (l : Lsp) (c : Option (List Step)) → Follows t s o l c →
    LspFits t s l c
lsp_fits t s o l None f = record { legs = f.legs; mail = f.mail; notices = f.notices }
lsp_fits t s o l (Some steps) (e, q, pl) = (purpose_role q, e, route_fits t s o l q steps e pl)
