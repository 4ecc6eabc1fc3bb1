-- The labels that rules choose are usable for the legs that take them.
use Rattle.std.proofs.Common.{◌≡◌, ℕ, Bool, true, false, cond, nat_eq, List, [], ◌∷◌, refl, sym, subst, ◌∙◌, arith}
use Rattle.std.specs.Prelude.{◌&&◌, Option, Some, None, is_some}
use Rattle.ason_base.specs.{Labels.{has, meet, least, up_to}, declared.ids.Fibre.Fibre, declared.messages.PathRole.PathRole, declared.network.LinkSpec.LinkSpec, declared.calls.Role.Role, declared.risks.Risk.Risk, declared.tables.Leg.Leg}
use Rattle.ason_base.proofs.{MaskMembers.has-filter, Bools.{and-right, and-left}}
use Rattle.mesh_rules.specs.{FirstLegs.{first_back, lacks_first_back}, KnownRows.known_rows, LocalNodes.{LocalNode, own_link, labels_of, fibre_out}, Legs.{is_usable, usable, label_through, only, reverse}, State.NodeState, Paths.{back_through, is_none, recorded, role_of}}

pub some-of : (o : Option ℕ) → is_none o ≡ false → is_some o ≡ true
some-of None e = absurd (cc e)
some-of (Some x) e = refl

pub least-has : (xs : List ℕ) (y : ℕ) → least xs ≡ Some y → has xs y ≡ true
least-has [] y e = cc
least-has (x ∷ xs) y e = let is : x ≡ y = cc in let test : nat_eq x y ≡ true = grind arith in rw test refl

pub has-left : (a b : List ℕ) (x : ℕ) → has (meet a b) x ≡ true → has a x ≡ true
has-left a b x h = and-left (has a x) (has b x) (sym (has-filter (has b) a x) ∙ h)

pub has-right : (a b : List ℕ) (x : ℕ) → has (meet a b) x ≡ true → has b x ≡ true
has-right a b x h = and-right (has a x) (has b x) (sym (has-filter (has b) a x) ∙ h)

-- a label that is listed is usable
pub usable-is : (p : LocalNode) (legs : List Leg) (r : Role) (risks : List Risk) (f : Fibre) (x : ℕ) →
    has (usable p legs r risks f) x ≡ true → is_usable r risks legs f x ≡ true
usable-is p legs r risks f x h =
    let all = up_to (labels_of (own_link p f.link)) in
    and-right (has all x) (is_usable r risks legs f x) (sym (has-filter (is_usable r risks legs f) all x) ∙ h)

-- the label that goes back is one of those that were looked at
pub through-has : (p : LocalNode) (labels : List ℕ) (x y : ℕ) → label_through p labels x ≡ Some y → has labels y ≡ true
through-has p labels x y e = go p.convert e
  where
    one : (b : Bool) → has labels x ≡ b → only x b ≡ Some y → has labels y ≡ true
    one true h e = let is : x ≡ y = cc e in subst (λ z. has labels z ≡ true) is h
    one false h e = absurd (cc e)

    go : (b : Bool) → cond b (least labels) (only x (has labels x)) ≡ Some y → has labels y ≡ true
    go true e = least-has labels y e
    go false e = one (has labels x) refl e

-- and so is the one for the way back
pub back-has : (p : LocalNode) (labels : List ℕ) (up : Option ℕ) (y : ℕ) → back_through p labels up ≡ Some y →
    has labels y ≡ true
back-has p labels None y e = absurd (cc e)
back-has p labels (Some x) y e = through-has p labels x y e

-- the label for the way back that a new LSP has is there where it is two-way, and is usable for it
pub first-has : (p : LocalNode) (s : NodeState) (both : Bool) (r : PathRole) (out : LinkSpec) →
    lacks_first_back p s both r out ≡ false → is_some (first_back p s both r out) ≡ (both && true)
first-has p s false r out e = refl
first-has p s true r out e = some-of (first_back p s true r out) e

pub first-usable : (p : LocalNode) (s : NodeState) (both : Bool) (r : PathRole) (out : LinkSpec) (x : ℕ) →
    first_back p s both r out ≡ Some x →
    is_usable (role_of r) (recorded (known_rows p s) r) s.legs (reverse (fibre_out out p.id)) x ≡ true
first-usable p s false r out x e = absurd (cc e)
first-usable p s true r out x e =
    let risks : List Risk = recorded (known_rows p s) r in
    let f : Fibre = reverse (fibre_out out p.id) in
    usable-is p s.legs (role_of r) risks f x (least-has (usable p s.legs (role_of r) risks f) x e)
