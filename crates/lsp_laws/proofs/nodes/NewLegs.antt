-- The legs that rules make may stand: they have the facts of a leg, and a label that they take is usable for them.
use Rattle.std.proofs.{Common.{◌≡◌, ◌<◌, ℕ, Bool, true, false, not, nat_eq, List, [], refl, sym, ap, subst, ◌∙◌, arith, inl, inr}, Math.Bool.{and-false, and-true}, lemmas.Option.same_Some, lemmas.Bool.{not-true, or_cases}}
use Rattle.std.specs.Prelude.{◌⊎◌, ◌&&◌, ◌||◌, Option, Some, None, IfSome, is_some}
use Rattle.ason_base.specs.{Labels.has, declared.ids.Fibre.Fibre, declared.ids.NodeId.NodeId, declared.network.LinkSpec.LinkSpec, declared.steps.Step.Step, declared.calls.Phase.Phase, declared.calls.Phase.TheVariants.Asked, declared.calls.Role.Role, declared.calls.Role.TheVariants.{Work, Back}, declared.risks.Risk.Risk, declared.tables.Leg.Leg}
use Rattle.ason_base.proofs.Numbers.{not-same}
use Rattle.mesh_rules.specs.{FirstLegs.{NewLsp, first_back, first_leg, lacks_first_back}, KnownRows.known_rows, LocalNodes.{LocalNode, fibre_in, fibre_out}, Legs.{is_armed, is_at, is_held, is_marking, is_usable, is_work, reserved, reverse, reverse_of, usable}, State.NodeState, Paths.{PathRequest, asked_leg, back_label, back_through, egress_leg, is_none, lacks_back, offered_labels, risks_here, role_of, transit_leg}}
use Rattle.mesh_rules.proofs.AnswerParts.{reserved-plain}
use Rattle.mesh_nodes.proofs.{LabelPlaces.{at-is, none-at}, ChosenLabels.{back-has, first-has, first-usable, has-right, some-of, usable-is}}
use Rattle.lsp_laws.specs.LabelLaw.{HasBackLabels}
use Rattle.lsp_laws.proofs.{nodes.BackLabels.reserved-stands, nodes.Facts.{FitsPhase, HasItsLabels, LegLabelsFit, LegFacts}, nodes.LegParts.MayStand, nodes.Marks.may-take, nodes.Sharing.{TakeOnlyRead, take-same}}

-- Phases

-- an Asked leg isn't marked
asked-plain : (r : Role) → (not (is_work r) && is_marking Asked) ≡ false
asked-plain Work = refl
asked-plain Back = refl

-- At the ingress

-- a leg that begins here has a next node
pub ingress-goes_on : (n next : ℕ) (g : Leg) → LegFacts n next g → g.lsp.ingress.0 ≡ n → is_some g.next ≡ true
ingress-goes_on n next g facts here =
    let test : nat_eq g.lsp.ingress.0 n ≡ true = grind arith in
    let first : is_some g.prev ≡ false = facts.prev ∙ ap not test in
    subst (λ b. (b || is_some g.next) ≡ true) first facts.one_end

-- and ends at another one
pub ingress-leaves : (n next : ℕ) (g : Leg) → LegFacts n next g → g.lsp.ingress.0 ≡ n → nat_eq g.egress.0 n ≡ false
ingress-leaves n next g facts here =
    not-true (nat_eq g.egress.0 n) (sym facts.next_node ∙ ingress-goes_on n next g facts here)

-- the first leg of an LSP, which takes its label for the way back; read are the legs among which that was chosen
pub first-stands : (p : LocalNode) (s : NodeState) (l : NewLsp) (both : Bool) (next : ℕ) (legs : List Leg) →
    l.back ≡ first_back p s both l.role l.out → lacks_first_back p s both l.role l.out ≡ false →
    l.lsp.ingress.0 ≡ p.id.0 → nat_eq l.egress.0 p.id.0 ≡ false → l.lsp.lsp < next → LegLabelsFit legs →
    TakeOnlyRead s.legs legs → MayStand p.id.0 next legs (first_leg p (known_rows p s) l)
first-stands p s l both next legs back has here not-same small labels less =
    let g : Leg = first_leg p (known_rows p s) l in
    may-take p.id.0 next s.legs legs labels less g
    (λ f x this.
    let at = at-is (Some (reverse (fibre_out l.out p.id))) l.back f x this in
    let fibre : reverse (fibre_out l.out p.id) ≡ f = same_Some _ f at.0 in
    inl (subst (λ k. is_usable g.role g.risks s.legs k x ≡ true) fibre
    (first-usable p s both l.role l.out x (sym back ∙ at.1))))
    (asked-plain (role_of l.role)) (record {
      prev = (let test : nat_eq l.lsp.ingress.0 p.id.0 ≡ true = grind arith in rw test refl);
      in_fibre = refl;
      next_node = rw not-same refl;
      out_fibre = refl;
      one_end = refl;
      number = λ e. small;
      role = refl;
      held = λ e. absurd (cc e);
      phase = (refl, refl, refl);
      offered = tt;
      sent = tt;
      back = (
        both,
        record {
          enters = ap is_some back ∙ first-has p s both l.role l.out has;
          leaves = sym (and-false both);
        },
      );
    })

-- Away from the ingress

-- a leg that has its label fits its phase, and isn't marked yet
pub phase_reserved : (r : Role) (g : Leg) → HasItsLabels g → FitsPhase (reserved r) g
phase_reserved Work g labels = labels
phase_reserved Back g labels = labels

-- reserved without a cross-connection it is a backup's
pub reserved-back : (r : Role) → (is_held (reserved r) || is_armed (reserved r)) ≡ true → r ≡ Back
reserved-back Work e = absurd (cc e)
reserved-back Back e = refl

module _ (p : LocalNode) (s : NodeState) (m : PathRequest) (link : LinkSpec) (next : ℕ)
    (far : nat_eq m.arrival.lsp.ingress.0 p.id.0 ≡ false) where
  abbrev risks : List Risk
  risks = risks_here p s m

  -- the leg that the Path makes, and what is known of it as far as the rest of it fits
  abbrev came : Option NodeId → Option Fibre → List ℕ → List Step → Phase → Option ℕ → Option ℕ → Leg
  came on out sent route f label back = record (asked_leg p m link risks (offered_labels p s m link)) {
    next = on;
    out_fibre = out;
    sent = sent;
    route = route;
    phase = f;
    in_label = label;
    back_in = back;
  }

  came-facts : (on : Option NodeId) (out : Option Fibre) (sent : List ℕ) (route : List Step) (f : Phase)
      (label back : Option ℕ) → is_some on ≡ not (nat_eq m.arrival.egress.0 p.id.0) → is_some out ≡ is_some on →
      ((is_held f || is_armed f) ≡ true → role_of m.role ≡ Back) → FitsPhase f (came on out sent route f label back) →
      IfSome label (λ x. has (offered_labels p s m link) x ≡ true) →
      HasBackLabels (came on out sent route f label back) →
      LegFacts p.id.0 next (came on out sent route f label back)
  came-facts on out sent route f label back leads leaves held phase offered labels = record {
    prev = rw far refl;
    in_fibre = refl;
    next_node = leads;
    out_fibre = leaves;
    one_end = refl;
    number = not-same m.arrival.lsp.ingress.0 p.id.0 (m.arrival.lsp.lsp < next) far;
    role = refl;
    held = held;
    phase = phase;
    offered = offered;
    sent = tt;
    back = labels;
  }

  pub egress-stands : (x : ℕ) → LegLabelsFit s.legs → nat_eq m.arrival.egress.0 p.id.0 ≡ true →
      has (offered_labels p s m link) x ≡ true →
      MayStand p.id.0 next s.legs (egress_leg p m link risks (offered_labels p s m link) x)
  egress-stands x labels here offered =
      may-take p.id.0 next s.legs s.legs labels (take-same s.legs) g
      (λ f y this. inl (only f y (or_cases (is_at g.in_fibre (Some x) f y) (is_at None None f y) this)))
      (reserved-plain (role_of m.role))
      (came-facts None None [] [] (reserved (role_of m.role)) (Some x) None (rw here refl) refl
      (reserved-back (role_of m.role)) (phase_reserved (role_of m.role) g (refl, refl)) offered (
        is_some m.upstream,
        record {
          enters = sym (and-false (is_some m.upstream));
          leaves = rw (reserved-stands (role_of m.role), and-true (is_some m.upstream)) refl;
        },
      ))
    where
      g : Leg
      g = egress_leg p m link risks (offered_labels p s m link) x

      only : (f : Fibre) (y : ℕ) → (is_at g.in_fibre (Some x) f y ≡ true) ⊎ (is_at None None f y ≡ true) →
          is_usable g.role g.risks s.legs f y ≡ true
      only f y (inl on) =
          let at = at-is g.in_fibre (Some x) f y on in
          let usable_here : List ℕ = usable p s.legs (role_of m.role) risks (fibre_in link p.id) in
          subst (λ z. is_usable g.role g.risks s.legs f z ≡ true) (same_Some x y at.1)
          (subst (λ k. is_usable g.role g.risks s.legs k x ≡ true) (same_Some (fibre_in link p.id) f at.0)
          (usable-is p s.legs g.role risks (fibre_in link p.id) x (has-right m.set usable_here x offered)))
      only f y (inr on) = absurd (cc on)

  pub transit-stands : (out : LinkSpec) (route : List Step) → LegLabelsFit s.legs →
      nat_eq m.arrival.egress.0 p.id.0 ≡ false → lacks_back p s m (Some out) ≡ false →
      MayStand p.id.0 next s.legs
      (transit_leg p m link risks out route (offered_labels p s m link) (back_label p s m out))
  transit-stands out route labels on has =
      may-take p.id.0 next s.legs s.legs labels (take-same s.legs) g
      (λ f x this.
      inl (only f x (or_cases (is_at g.in_fibre None f x) (is_at (reverse_of g.out_fibre) g.back_in f x) this)))
      (asked-plain (role_of m.role))
      (came-facts g.next g.out_fibre g.sent route Asked None g.back_in (rw on refl) refl (λ e. absurd (cc e))
      (refl, refl, refl) tt (
        is_some m.upstream,
        record {
          enters = back-chosen m.upstream has;
          leaves = sym (and-true (is_some m.upstream));
        },
      ))
    where
      back_fibre : Fibre
      back_fibre = reverse (fibre_out out p.id)

      usable_back : List ℕ
      usable_back = usable p s.legs (role_of m.role) risks back_fibre

      g : Leg
      g = transit_leg p m link risks out route (offered_labels p s m link) (back_label p s m out)

      back-chosen : (up : Option ℕ) → (is_some up && is_none (back_through p usable_back up)) ≡ false →
          is_some (back_through p usable_back up) ≡ (is_some up && true)
      back-chosen None e = refl
      back-chosen (Some x) e = some-of (back_through p usable_back (Some x)) e

      only : (f : Fibre) (x : ℕ) →
          (is_at g.in_fibre None f x ≡ true) ⊎ (is_at (reverse_of g.out_fibre) g.back_in f x ≡ true) →
          is_usable g.role g.risks s.legs f x ≡ true
      only f x (inl e) = absurd (let none = none-at g.in_fibre f x in cc (none, e))
      only f x (inr e) =
          let at = at-is (reverse_of g.out_fibre) g.back_in f x e in
          subst (λ k. is_usable g.role g.risks s.legs k x ≡ true) (same_Some back_fibre f at.0)
          (usable-is p s.legs g.role risks back_fibre x (back-has p usable_back m.upstream x at.1))
