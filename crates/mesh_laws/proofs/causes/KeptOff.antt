-- Where no label is usable, each label of the link is kept off by a leg.
use Rattle.std.proofs.{Common.{◌≡◌, ◌≤◌, ◌<◌, ◌+◌, ℕ, zero, suc, Bool, true, false, not, cond, nat_eq, List, [], ◌∷◌, refl, sym, ap, ◌∙◌, subst, arith, inl, inr}, lemmas.Bool.{not-false, not-true, or_cases}}
use Rattle.std.specs.Prelude.{◌⊎◌, ◌&&◌, ◌||◌, Some}
use Rattle.ason_base.specs.{Labels.{has, least, meet, numbers_from, up_to}, Risks.have_common, declared.calls.Role.Role, declared.calls.Role.TheVariants.{Work, Back}, declared.ids.Fibre.Fibre, declared.network.LinkSpec.LinkSpec, declared.risks.Risk.Risk, declared.tables.Leg.Leg, Network.{Network, touches}, declared.ids.LinkId.LinkId, declared.ids.NodeId.NodeId}
use Rattle.ason_base.proofs.{MaskMembers.has-filter, Ordered.any-there, Bools.{and-left, and-right}, Members.kept-there}
use Rattle.mesh_rules.specs.{Legs.{is_apart, is_at, is_usable, is_work, label_through, only, reverse_of, takes, usable}, LocalNodes.{LocalNode, labels_of, local_node, own_link}, Paths.is_none}
use Rattle.mesh_nodes.proofs.{LabelPlaces.at-is, routes.Nodes.find-there}
use Rattle.lsp_laws.proofs.hops.Plans.{found_id}
use Rattle.mesh_laws.specs.{CauseLaw.{IsLinkAt, KeepsOff}, RestedLaw.{Arrives, Onward, Returning}}
use Rattle.mesh_laws.proofs.acts.Busy.{opposite-of}

-- a number between is among them
has-from : (first n x : ℕ) → first ≤ x → x < first + n → has (numbers_from first n) x ≡ true
unfolding numbers_from
has-from first zero x low high = absurd (omega (arith, low, high))
has-from first (suc n) x low high = go (nat_eq first x) refl (λ more. has-from (first + 1) n x more (omega (arith, high)))
  where
    go : (b : Bool) → nat_eq first x ≡ b → (first + 1 ≤ x → has (numbers_from (first + 1) n) x ≡ true) →
        (b || has (numbers_from (first + 1) n) x) ≡ true
    go true e later = refl
    go false e later = later (grind (arith, low))

pub has-up : (n x : ℕ) → 1 ≤ x → x ≤ n → has (up_to n) x ≡ true
has-up n x low high = has-from 1 n x low (omega (arith, high))

takes-so : (f : Fibre) (x : ℕ) (g : Leg) → takes f x g ≡ true → Arrives f x g
takes-so f x g taken =
    elim (or_cases (is_at g.in_fibre g.in_label f x) (is_at (reverse_of g.out_fibre) g.back_in f x) taken) [
      | inl on ↦ (let is = at-is g.in_fibre g.in_label f x on in Onward is.0 is.1)
      | inr on ↦ (let is = at-is (reverse_of g.out_fibre) g.back_in f x on in let e = opposite-of g.out_fibre f is.0 in
          Returning e.1 e.2 is.1)
    ]

barred : (r : Role) (b : Bool) → (not (is_work r) && not b) ≡ false → (r ≡ Work) ⊎ (b ≡ true)
barred Work b e = inl refl
barred Back b e = inr (not-false b e)

-- a label that isn't usable is kept off
pub kept-off : (r : Role) (risks : List Risk) (legs : List Leg) (f : Fibre) (x : ℕ) →
    is_usable r risks legs f x ≡ false → KeepsOff legs r risks f x
kept-off Work risks legs f x no_use =
    let g = any-there (takes f x) legs (not-false _ no_use) in
    record { leg = g.0; there = g.1; arrives = takes-so f x g.0 g.2; bars = inl refl }
kept-off Back risks legs f x no_use =
    let g = any-there (λ g. takes f x g && not (is_apart risks g)) legs (not-false _ no_use) in
    record {
      leg = g.0;
      there = g.1;
      arrives = takes-so f x g.0 (and-left (takes f x g.0) _ g.2);
      bars = inr (barred g.0.role (have_common risks g.0.risks) (not-true _ (and-right (takes f x g.0) _ g.2)));
    }

none-has : (xs : List ℕ) (x : ℕ) → is_none (least xs) ≡ true → has xs x ≡ false
none-has [] x e = refl
none-has (y ∷ xs) x e = absurd (cc e)

-- not usable, though one of the link's
pub unusable : (p : LocalNode) (legs : List Leg) (r : Role) (risks : List Risk) (f : Fibre) (link : LinkSpec) (x : ℕ) →
    own_link p f.link ≡ Some link → 1 ≤ x → x ≤ link.labels → has (usable p legs r risks f) x ≡ false →
    is_usable r risks legs f x ≡ false
unusable p legs r risks f link x own low high none =
    let all : has (up_to (labels_of (own_link p f.link))) x ≡ true =
    subst (λ o. has (up_to (labels_of o)) x ≡ true) (sym own) (has-up link.labels x low high) in
    let both : (has (up_to (labels_of (own_link p f.link))) x && is_usable r risks legs f x) ≡ false =
    sym (has-filter (is_usable r risks legs f) (up_to (labels_of (own_link p f.link))) x) ∙ none in
    sym (ap (λ b. b && is_usable r risks legs f x) all) ∙ both

-- none of a set
pub set-kept_off : (p : LocalNode) (legs : List Leg) (r : Role) (risks : List Risk) (f : Fibre) (link : LinkSpec)
    (set : List ℕ) → own_link p f.link ≡ Some link →
    is_none (least (meet set (usable p legs r risks f))) ≡ true → (x : ℕ) → has set x ≡ true → 1 ≤ x →
    x ≤ link.labels → KeepsOff legs r risks f x
set-kept_off p legs r risks f link set own none x in_set low high =
    let both : (has set x && has (usable p legs r risks f) x) ≡ false =
    sym (has-filter (has (usable p legs r risks f)) set x)
    ∙ none-has (meet set (usable p legs r risks f)) x none in
    kept-off r risks legs f x
    (unusable p legs r risks f link x own low high (sym (ap (λ b. b && has (usable p legs r risks f) x) in_set) ∙ both))

-- none goes through the node
pub through-kept_off : (p : LocalNode) (legs : List Leg) (r : Role) (risks : List Risk) (f : Fibre) (link : LinkSpec)
    (up : ℕ) → own_link p f.link ≡ Some link → is_none (label_through p (usable p legs r risks f) up) ≡ true → (x : ℕ) →
    (p.convert ≡ true) ⊎ (x ≡ up) → 1 ≤ x → x ≤ link.labels → KeepsOff legs r risks f x
through-kept_off p legs r risks f link up own none x may low high =
    kept-off r risks legs f x
    (unusable p legs r risks f link x own low high (go p.convert refl may none))
  where
    alone : (b : Bool) → has (usable p legs r risks f) up ≡ b → is_none (only up b) ≡ true → x ≡ up →
        has (usable p legs r risks f) x ≡ false
    alone true e h is = absurd (cc h)
    alone false e h is = subst (λ y. has (usable p legs r risks f) y ≡ false) (sym is) e

    go : (b : Bool) → p.convert ≡ b → (b ≡ true) ⊎ (x ≡ up) →
        is_none (cond b (least (usable p legs r risks f)) (only up (has (usable p legs r risks f) up))) ≡ true →
        has (usable p legs r risks f) x ≡ false
    go true e may h = none-has (usable p legs r risks f) x h
    go false e (inl converts) h = absurd (cc converts)
    go false e (inr is) h = alone (has (usable p legs r risks f) up) refl h is

-- none of the fibre
pub all-kept_off : (p : LocalNode) (legs : List Leg) (r : Role) (risks : List Risk) (f : Fibre) (link : LinkSpec) →
    own_link p f.link ≡ Some link → is_none (least (usable p legs r risks f)) ≡ true → (x : ℕ) → 1 ≤ x →
    x ≤ link.labels → KeepsOff legs r risks f x
all-kept_off p legs r risks f link own none x low high =
    kept-off r risks legs f x
    (unusable p legs r risks f link x own low high (none-has (usable p legs r risks f) x none))

-- a link of the node
pub own-link-at : (t : Network) (d : NodeId) (j : LinkId) (out : LinkSpec) → own_link (local_node t d) j ≡ Some out →
    IsLinkAt t d j out
own-link-at t d j out is =
    let kept = kept-there (touches d) t.links out
    (find-there (λ z. nat_eq z.id.0 j.0) (local_node t d).own out is) in
    record { there = kept.0; id = found_id j (local_node t d).own out is; ends = kept.1 }

-- none of those that were offered goes through the node
pub offered-kept_off : (p : LocalNode) (legs : List Leg) (r : Role) (risks : List Risk) (f : Fibre) (link : LinkSpec)
    (offered : List ℕ) (up : ℕ) → own_link p f.link ≡ Some link →
    is_none (label_through p (meet offered (usable p legs r risks f)) up) ≡ true → (x : ℕ) → has offered x ≡ true →
    (p.convert ≡ true) ⊎ (x ≡ up) → 1 ≤ x → x ≤ link.labels → KeepsOff legs r risks f x
offered-kept_off p legs r risks f link offered up own none x was may low high =
    let both : (has offered x && has (usable p legs r risks f) x) ≡ false =
    sym (has-filter (has (usable p legs r risks f)) offered x) ∙ go p.convert refl may none in
    kept-off r risks legs f x
    (unusable p legs r risks f link x own low high (sym (ap (λ b. b && has (usable p legs r risks f) x) was) ∙ both))
  where
    left : List ℕ
    left = meet offered (usable p legs r risks f)

    alone : (b : Bool) → has left up ≡ b → is_none (only up b) ≡ true → x ≡ up → has left x ≡ false
    alone true e h is = absurd (cc h)
    alone false e h is = subst (λ y. has left y ≡ false) (sym is) e

    go : (b : Bool) → p.convert ≡ b → (b ≡ true) ⊎ (x ≡ up) →
        is_none (cond b (least left) (only up (has left up))) ≡ true → has left x ≡ false
    go true e may h = none-has left x h
    go false e (inl converts) h = absurd (cc converts)
    go false e (inr is) h = alone (has left up) refl h is
