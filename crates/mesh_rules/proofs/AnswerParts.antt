-- Facts on the parts of answers and of legs.
use Rattle.std.specs.Prelude.{◌&&◌, Some, Option, None}
use Rattle.std.proofs.Common.{[], append-nil, ◌++◌, ◌≡◌, not, false, refl, ap, Bool, true}
use Rattle.ason_base.specs.{declared.calls.Role.TheVariants.{Back, Work}, declared.calls.Role.Role, declared.ids.NodeId.NodeId, declared.ids.Fibre.Fibre, declared.tables.Leg.Leg}
use Rattle.mesh_rules.specs.{Changes.{followed_by, nothing, Answer}, Legs.{is_work, reserved, is_marking, neighbour_over}, declared.neighbours.Neighbour.Neighbour, Releases.tears}
use Rattle.mesh_rules.specs.Legs.{reverse}

-- An answer with nothing after it is that answer.
pub then-nothing : (a : Answer) → followed_by a nothing ≡ a
then-nothing a =
    let legs : a.legs ++ [] ≡ a.legs = append-nil a.legs in
    let calls : a.calls ++ [] ≡ a.calls = append-nil a.calls in
    let rows : a.rows ++ [] ≡ a.rows = append-nil a.rows in
    let sent : a.sent ++ [] ≡ a.sent = append-nil a.sent in
    λ i. record a { legs = legs i; calls = calls i; rows = rows i; sent = sent i }

-- The phase of a reserved leg of a work LSP does not mark.
pub reserved-plain : (r : Role) → (not (is_work r) && is_marking (reserved r)) ≡ false
reserved-plain Work = refl
reserved-plain Back = refl

-- The neighbour over a fibre has that fibre.
pub beside : (n : Option NodeId) (f : Option Fibre) (h : Neighbour) → neighbour_over n f ≡ Some h → f ≡ Some h.fibre
beside None f h e = absurd (cc e)
beside (Some n) None h e = absurd (cc e)
beside (Some n) (Some f) h e = let is : record { node = n; fibre = f } ≡ h = cc in ap (λ k. Some k.fibre) is

-- A teardown changes no call.
pub tears-no_call : (o : Option Leg) → (tears o).calls ≡ []
tears-no_call None = refl
tears-no_call (Some g) = refl

-- A fibre turned twice is that fibre.
pub turned-twice : (f : Fibre) → reverse (reverse f) ≡ f
turned-twice f = λ i. record { link = f.link; forward = back f.forward i }
  where
    back : (b : Bool) → not (not b) ≡ b
    back true = refl
    back false = refl
