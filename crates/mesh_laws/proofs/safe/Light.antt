-- Light of one label on one fibre is of one LSP, and its label is one of the link's.
use Rattle.std.proofs.{Common.{◌≡◌, ◌≢◌, ◌≤◌, ◌<◌, ◌+◌, ℕ, zero, suc, Bool, true, false, not, nat_eq, refl, ap, ◌∙◌, subst, arith, inl, inr}, lemmas.List.Elements.All-contains, lemmas.Bool.{or_left, or_right}}
use Rattle.std.specs.Prelude.{◌||◌, Option, Some, None}
use Rattle.ason_base.specs.{Labels.{has, numbers_from, up_to}, Network.Network, declared.ids.Fibre.Fibre, declared.ids.LinkId.LinkId, declared.ids.NodeId.NodeId, declared.network.LinkSpec.LinkSpec, declared.tables.Leg.Leg}
use Rattle.mesh_rules.specs.{Events.after, Legs.{is_at, reverse, reverse_of, sends_label, takes}, LocalNodes.{labels_of, local_node, own_link}, Machine.{Mesh, start}}
use Rattle.mesh_nodes.proofs.LabelPlaces.{is-at}
use Rattle.lsp_laws.specs.LabelLaw.{KeepsLabels}
use Rattle.lsp_laws.proofs.hops.NodeLabels.{every_leg_keeps}
use Rattle.mesh_laws.specs.{CauseLaw.IsLinkAt, LightLaw.{EveryLabelIsOfItsLink, EveryLightIsOfOneLsp, IsLit}, RestedLaw.{AreOpposite, Arrives, GoesBack, GoesOn, Leaves, Onward, Returning}, SafeLaw.Connects}
use Rattle.mesh_laws.proofs.{causes.KeptOff.own-link-at, safe.Law.every_run_safe}

-- the other direction of a fibre is the opposite one
opposite-is : (e f : Fibre) → AreOpposite e f → reverse e ≡ f
opposite-is e f opposite =
    let at : LinkId → Bool → Fibre = (λ k b. record { link = k; forward = b }) in
    ap (λ k. at k (not e.forward)) opposite.link ∙ ap (at f.link) (other e.forward f.forward opposite.forward)
  where
    other : (a b : Bool) → a ≢ b → not a ≡ b
    other true true apart = absurd (apart refl)
    other true false apart = refl
    other false true apart = refl
    other false false apart = absurd (apart refl)

turned : (o : Option Fibre) (e f : Fibre) → o ≡ Some e → AreOpposite e f → reverse_of o ≡ Some f
turned o e f is opposite = ap reverse_of is ∙ ap Some (opposite-is e f opposite)

pub arrives-takes : (f : Fibre) (x : ℕ) (g : Leg) → Arrives f x g → takes f x g ≡ true
arrives-takes f x g (Onward fibre label) =
    or_left (is_at g.in_fibre g.in_label f x) _ (is-at g.in_fibre g.in_label f x fibre label)
arrives-takes f x g (Returning {e = e} fibre opposite label) =
    or_right (is_at g.in_fibre g.in_label f x) _
    (is-at (reverse_of g.out_fibre) g.back_in f x (turned g.out_fibre e f fibre opposite) label)

pub leaves-sends : (f : Fibre) (x : ℕ) (g : Leg) → Leaves f x g → sends_label f x g ≡ true
leaves-sends f x g (GoesOn fibre label) =
    or_left (is_at g.out_fibre g.out_label f x) _ (is-at g.out_fibre g.out_label f x fibre label)
leaves-sends f x g (GoesBack {e = e} fibre opposite label) =
    or_right (is_at g.out_fibre g.out_label f x) _
    (is-at (reverse_of g.in_fibre) g.back_out f x (turned g.in_fibre e f fibre opposite) label)

connects : (t : Network) (s : Mesh) (f : Fibre) (x : ℕ) (g : Leg) → IsLit t s f x g → Connects t s f x g
connects t s f x g lit = record {
  live = lit.live;
  at_an_end = elim lit.at_an_end [
    | inl at ↦ inl (at.0, arrives-takes f x g at.1)
    | inr at ↦ inr (at.0, leaves-sends f x g at.1)
  ];
}

-- over every network and every run
pub every_light : EveryLightIsOfOneLsp
every_light t events run f x g h this that =
    every_run_safe t events run f x g h (connects t (after t start events) f x g this)
    (connects t (after t start events) f x h that)

-- Labels

-- a number that is among them is between
pub from-has : (first n x : ℕ) → has (numbers_from first n) x ≡ true → (first ≤ x) × (x < first + n)
unfolding numbers_from
from-has first zero x among = absurd (cc among)
from-has first (suc n) x among = go (nat_eq first x) refl (λ is. from-has (first + 1) n x is) among
  where
    go : (b : Bool) → nat_eq first x ≡ b → (has (numbers_from (first + 1) n) x ≡ true →
        (first + 1 ≤ x) × (x < first + 1 + n)) → (b || has (numbers_from (first + 1) n) x) ≡ true →
        (first ≤ x) × (x < first + suc n)
    go true e later is = (let one : first ≡ x = grind arith in (omega (arith, one), omega (arith, one)))
    go false e later is = (let both = later is in
        let low = both.0 in
        let high = both.1 in
        (omega (arith, low), omega (arith, high)))

abbrev IsOfLink : Network → NodeId → LinkId → ℕ → Type 0
IsOfLink t n k x = (link : LinkSpec) × IsLinkAt t n k link × (1 ≤ x) × (x ≤ link.labels)

of-link : (t : Network) (n : NodeId) (k : LinkId) (x : ℕ) → has (up_to (labels_of (own_link (local_node t n) k))) x ≡ true →
    IsOfLink t n k x
of-link t n k x among = go (own_link (local_node t n) k) refl among
  where
    go : (o : Option LinkSpec) → own_link (local_node t n) k ≡ o → has (up_to (labels_of o)) x ≡ true → IsOfLink t n k x
    go None is within =
        (let both = from-has 1 0 x within in let low = both.0 in let high = both.1 in absurd (omega (arith, low, high)))
    go (Some link) is within =
        let both = from-has 1 link.labels x within in
        let high = both.1 in
        (link, own-link-at t n k link is, both.0, omega (arith, high))

-- over every network and every run
pub every_label_of_link : EveryLabelIsOfItsLink
every_label_of_link t events run n g f x there arrives =
    go f arrives (All-contains (KeepsLabels (local_node t n)) ((after t start events).nodes n.0).legs g
    (every_leg_keeps t events run n) there)
  where
    go : (f : Fibre) → Arrives f x g → KeepsLabels (local_node t n) g → IsOfLink t n f.link x
    go f (Onward fibre label) kept = of-link t n f.link x (kept.of_link f x fibre label)
    go f (Returning {e = e} fibre opposite label) kept =
        subst (λ k. IsOfLink t n k x) opposite.link (of-link t n e.link x (kept.back_of_link e x fibre label))
