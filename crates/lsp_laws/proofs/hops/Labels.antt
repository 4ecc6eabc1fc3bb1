-- Which labels are in the sets that a rule makes.
use Rattle.std.proofs.Common.{◌≡◌, ℕ, Bool, true, false, cond, List, sym, ◌∙◌, subst}
use Rattle.std.specs.Prelude.{Option, Some, None}
use Rattle.ason_base.specs.{Labels.{has, meet, least, up_to}, declared.calls.Role.Role, declared.ids.Fibre.Fibre, declared.messages.PathRole.PathRole, declared.network.LinkSpec.LinkSpec, declared.risks.Risk.Risk, declared.tables.Leg.Leg}
use Rattle.ason_base.proofs.{MaskMembers.has-filter, Bools.and-left}
use Rattle.mesh_rules.specs.{FirstLegs.first_back, KnownRows.known_rows, Legs.{is_usable, label_through, only, reverse, usable}, LocalNodes.{LocalNode, fibre_out, labels_of, own_link}, Paths.{PathRequest, back_label, back_through, recorded, risks_here, role_of}, State.NodeState}
use Rattle.mesh_nodes.proofs.ChosenLabels.{back-has, has-right, least-has}

-- a node that doesn't convert passes back the label that came
pub back_same : (p : LocalNode) (labels : List ℕ) (x y : ℕ) → p.convert ≡ false → label_through p labels x ≡ Some y →
    y ≡ x
back_same p labels x y keeps e = go p.convert keeps e
  where
    one : (b : Bool) → only x b ≡ Some y → y ≡ x
    one true e = let is : x ≡ y = cc e in sym is
    one false e = absurd (cc e)

    go : (b : Bool) → b ≡ false → cond b (least labels) (only x (has labels x)) ≡ Some y → y ≡ x
    go true k e = absurd (cc k)
    go false k e = one (has labels x) e

-- a label that is usable is one of the link's
usable_of_link : (p : LocalNode) (legs : List Leg) (r : Role) (risks : List Risk) (f : Fibre) (x : ℕ) →
    has (usable p legs r risks f) x ≡ true → has (up_to (labels_of (own_link p f.link))) x ≡ true
usable_of_link p legs r risks f x e =
    let all = up_to (labels_of (own_link p f.link)) in
    let both = rw (has-filter (is_usable r risks legs f) all x) at e in
    and-left (has all x) (is_usable r risks legs f x) both

-- so is one that is left of a set
pub left_of_link : (p : LocalNode) (legs : List Leg) (r : Role) (risks : List Risk) (f : Fibre) (set : List ℕ) (x : ℕ) →
    has (meet set (usable p legs r risks f)) x ≡ true → has (up_to (labels_of (own_link p f.link))) x ≡ true
left_of_link p legs r risks f set x e =
    usable_of_link p legs r risks f x (has-right set (usable p legs r risks f) x e)

-- The way back

-- two words for one fibre have one link
pub same_link : (p : LocalNode) (f g : Fibre) (x : ℕ) → Some f ≡ Some g →
    has (up_to (labels_of (own_link p f.link))) x ≡ true → has (up_to (labels_of (own_link p g.link))) x ≡ true
same_link p f g x is there =
    let same : f ≡ g = cc is in subst (λ f. has (up_to (labels_of (own_link p f.link))) x ≡ true) same there

back_same_as : (p : LocalNode) (labels : List ℕ) (came : Option ℕ) (x y : ℕ) → p.convert ≡ false →
    back_through p labels came ≡ Some x → came ≡ Some y → x ≡ y
back_same_as p labels None x y keeps e is = absurd (cc is)
back_same_as p labels (Some z) x y keeps e is = let same : z ≡ y = cc is in back_same p labels z x keeps e ∙ same

-- where a Path goes on, a node that doesn't convert takes for the way back the label that came
pub back_label_same : (p : LocalNode) (s : NodeState) (m : PathRequest) (out : LinkSpec) → p.convert ≡ false →
    (x y : ℕ) → back_label p s m out ≡ Some x → m.upstream ≡ Some y → x ≡ y
back_label_same p s m out keeps x y e is =
    back_same_as p (usable p s.legs (role_of m.role) (risks_here p s m) (reverse (fibre_out out p.id))) m.upstream x y
    keeps e is

-- and any node one of the link's over which the Path goes on
pub back_label_of_link : (p : LocalNode) (s : NodeState) (m : PathRequest) (out : LinkSpec) (f : Fibre) (x : ℕ) →
    Some (fibre_out out p.id) ≡ Some f → back_label p s m out ≡ Some x →
    has (up_to (labels_of (own_link p f.link))) x ≡ true
back_label_of_link p s m out f x on e =
    let back : Fibre = reverse (fibre_out out p.id) in
    let labels : List ℕ = usable p s.legs (role_of m.role) (risks_here p s m) back in
    same_link p (fibre_out out p.id) f x on
    (usable_of_link p s.legs (role_of m.role) (risks_here p s m) back x (back-has p labels m.upstream x e))

-- so does the ingress, over the first link
pub first_back_of_link : (p : LocalNode) (s : NodeState) (both : Bool) (r : PathRole) (out : LinkSpec) (x : ℕ) →
    first_back p s both r out ≡ Some x → has (up_to (labels_of (own_link p out.id))) x ≡ true
first_back_of_link p s false r out x e = absurd (cc e)
first_back_of_link p s true r out x e =
    let back : Fibre = reverse (fibre_out out p.id) in
    let risks : List Risk = recorded (known_rows p s) r in
    usable_of_link p s.legs (role_of r) risks back x (least-has (usable p s.legs (role_of r) risks back) x e)
