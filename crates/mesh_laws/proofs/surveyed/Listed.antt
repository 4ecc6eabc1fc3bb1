-- Where two calls would contend by the rows, the survey lists it.
use Rattle.std.proofs.{Common.{◌≡◌, ℕ, Bool, true, false, nat_eq, map, List, [], ◌∷◌, sym, ◌∙◌, subst, arith, inl, inr, Contains}, lemmas.List.Elements.{Contains-append_left, Contains-append_right}}
use Rattle.std.specs.Prelude.{◌⊎◌, ◌&&◌, nat_lt, flat_map, filter}
use Rattle.ason_base.specs.{InOrder.in_order, Network.Network, declared.calls.CallRow.CallRow, declared.calls.LegRow.LegRow, declared.commands.Group.Group, declared.commands.Group.TheVariants.{Srlg, Link}, declared.ids.LinkId.LinkId, declared.network.LinkSpec.LinkSpec}
use Rattle.ason_base.proofs.{Ordered.{any-there, in_order-has}, RisingNumbers.nat_order, Members.{contains-cases, contains-head, contains-tail, there-flat, there-kept, there-map, contains-none}}
use Rattle.mesh_rules.specs.Failures.{is_risk_of}
use Rattle.mesh_nodes.proofs.routes.Nodes.{find-there}
use Rattle.mesh_laws.specs.{declared.survey.Contend.Contend, AloneLaw.is_on_link, Survey.{all_between, contends_between, end_of, groups_of, may_turn_to, of_two, on_label, contends_over_fibre, over_link, labels_at}}
use Rattle.mesh_laws.proofs.alone.Risks.{link-found}

-- a group of a link is one of the network's
pub group-there : (t : Network) (g : Group) (k : LinkId) → is_on_link t g k ≡ true → Contains (groups_of t) g
group-there t g k e =
    let l = link-found t g k e in
    let there : Contains t.links l.0 = find-there (λ m. nat_eq m.id.0 k.0) t.links l.0 l.1 in
    go g l.0 there l.2
  where
    go : (g : Group) (l : LinkSpec) → Contains t.links l → is_risk_of l g ≡ true → Contains (groups_of t) g
    go (Srlg n) l there e =
        let one = any-there (λ r. nat_eq r n) l.srlgs e in
        let is : one.0 ≡ n = (let test = one.2 in grind arith) in
        let all : Contains (flat_map (λ (m : LinkSpec). m.srlgs) t.links) n =
        there-flat (λ (m : LinkSpec). m.srlgs) t.links l n there (subst (Contains l.srlgs) is one.1) in
        Contains-append_left (map Srlg (in_order nat_lt (flat_map (λ m. m.srlgs) t.links))) _ (Srlg n)
        (there-map Srlg (in_order nat_lt (flat_map (λ m. m.srlgs) t.links)) n
        ((in_order-has nat_lt nat_order (flat_map (λ m. m.srlgs) t.links) n).1 all))
    go (Link j) l there e =
        let number : l.id.0 ≡ j.0 = grind arith in
        let same : l.id ≡ j = (λ i. record { 0 = number i }) in
        Contains-append_right (map Srlg (in_order nat_lt (flat_map (λ m. m.srlgs) t.links))) _ (Link j)
        (subst (λ m. Contains (map (λ (x : LinkSpec). Link x.id) t.links) (Link m)) same
        (there-map (λ (x : LinkSpec). Link x.id) t.links l there))

-- of two groups the one is before the other
pub either-order : (t : Network) (calls : List CallRow) (legs : List LegRow) (groups : List Group) (g h : Group) →
    Contains groups g → Contains groups h → (g ≡ h → ⊥) →
    ((c : Contend) → Contains (contends_between t calls legs g h) c → Contains (all_between t calls legs groups) c) ⊎
    ((c : Contend) → Contains (contends_between t calls legs h g) c → Contains (all_between t calls legs groups) c)
either-order t calls legs [] g h at_g at_h apart = absurd (contains-none g at_g)
either-order t calls legs (k ∷ groups) g h at_g at_h apart =
    elim (contains-cases k g groups at_g) [
      | inl is_g ↦ elim (contains-cases k h groups at_h) [
        | inl is_h ↦ absurd (apart (sym is_g ∙ is_h))
        | inr later ↦ inl (λ c there. Contains-append_left (flat_map (contends_between t calls legs k) groups) _ c
            (there-flat (contends_between t calls legs k) groups h c later
            (subst (λ m. Contains (contends_between t calls legs m h) c) (sym is_g) there)))
      ]
      | inr later_g ↦ elim (contains-cases k h groups at_h) [
        | inl is_h ↦ inr (λ c there. Contains-append_left (flat_map (contends_between t calls legs k) groups) _ c
            (there-flat (contends_between t calls legs k) groups g c later_g
            (subst (λ m. Contains (contends_between t calls legs m g) c) (sym is_h) there)))
        | inr later_h ↦ onward (either-order t calls legs groups g h later_g later_h apart)
      ]
    ]
  where
    onward : (((c : Contend) → Contains (contends_between t calls legs g h) c →
        Contains (all_between t calls legs groups) c) ⊎
        ((c : Contend) → Contains (contends_between t calls legs h g) c →
        Contains (all_between t calls legs groups) c)) →
        (((c : Contend) → Contains (contends_between t calls legs g h) c →
        Contains (all_between t calls legs (k ∷ groups)) c) ⊎
        ((c : Contend) → Contains (contends_between t calls legs h g) c →
        Contains (all_between t calls legs (k ∷ groups)) c))
    onward (inl f) = inl (λ c there.
        Contains-append_right (flat_map (contends_between t calls legs k) groups) (all_between t calls legs groups) c
        (f c there))
    onward (inr f) = inr (λ c there.
        Contains-append_right (flat_map (contends_between t calls legs k) groups) (all_between t calls legs groups) c
        (f c there))

-- the two calls, for this label of a fibre of the link, where both groups fail
abbrev pub would_contend : Group → Group → LinkSpec → Bool → ℕ → CallRow → CallRow → Contend
would_contend g h l forward x a b = record {
  first = g;
  second = h;
  fibre = record { link = l.id; forward = forward };
  label = x;
  one = a.call;
  two = b.call;
}

-- two calls that would contend are listed
pub between-has : (t : Network) (calls : List CallRow) (legs : List LegRow) (g h : Group) (l : LinkSpec)
    (forward : Bool) (x : ℕ) (a b : CallRow) → Contains t.links l →
    Contains (labels_at legs (end_of l forward) l.id) x →
    Contains calls a → Contains calls b → may_turn_to t legs g (end_of l forward) l.id x a ≡ true →
    may_turn_to t legs h (end_of l forward) l.id x b ≡ true →
    (nat_eq a.call.0 b.call.0 && nat_eq a.ingress.0 b.ingress.0) ≡ false →
    Contains (contends_between t calls legs g h) (would_contend g h l forward x a b)
between-has t calls legs g h l forward x a b link label at_a at_b turns_a turns_b differ =
    let c = would_contend g h l forward x a b in
    let pair : Contains (of_two g h l.id forward x a b) c = rw differ (contains-head c []) in
    there-flat (over_link t calls legs g h) t.links l c link
    (there-flat (contends_over_fibre t calls legs g h l) (true ∷ false ∷ []) forward c (either forward)
    (there-flat (on_label t calls legs g h l forward) (labels_at legs (end_of l forward) l.id) x c label
    (there-flat (λ d. flat_map (of_two g h l.id forward x d)
    (filter (may_turn_to t legs h (end_of l forward) l.id x) calls))
    (filter (may_turn_to t legs g (end_of l forward) l.id x) calls) a c
    (there-kept (may_turn_to t legs g (end_of l forward) l.id x) calls a at_a turns_a)
    (there-flat (of_two g h l.id forward x a) (filter (may_turn_to t legs h (end_of l forward) l.id x) calls) b c
    (there-kept (may_turn_to t legs h (end_of l forward) l.id x) calls b at_b turns_b) pair))))
  where
    either : (z : Bool) → Contains (true ∷ false ∷ []) z
    either true = contains-head true (false ∷ [])
    either false = contains-tail true false (false ∷ []) (contains-head false [])
