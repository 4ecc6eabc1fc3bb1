-- The Path of a backup that goes to the next node again is one Path, whatever it does there.
use Rattle.std.proofs.Common.{◌≡◌, Bool, true, false, [], ◌∷◌, refl, ap}
use Rattle.std.specs.Prelude.{Some, None}
use Rattle.ason_base.specs.{declared.messages.PathRole.PathRole, declared.messages.PathRole.TheVariants.{Work, Back}, declared.tables.Leg.Leg}
use Rattle.mesh_rules.specs.{declared.neighbours.Neighbour.Neighbour, Activations.path_to, Turns.{activating, taking_back}}
use Rattle.call_control.specs.Turning.{role_again, sent_again}

activates : (r : PathRole) → activating r ≡ role_again true r
activates (Work guard) = refl
activates (Back was work primary) = refl

takes-back : (r : PathRole) → taking_back r ≡ role_again false r
takes-back (Work guard) = refl
takes-back (Back was work primary) = refl

-- at the egress there is none
pub none_again : (active : Bool) (b : Leg) → sent_again active b None ≡ []
none_again true b = refl
none_again false b = refl

pub next_again : (active : Bool) (b : Leg) (h : Neighbour) →
    sent_again active b (Some h) ≡ path_to b b.route (role_again active b.path_role) h ∷ []
next_again true b h = ap (λ r. path_to b b.route r h ∷ []) (activates b.path_role)
next_again false b h = ap (λ r. path_to b b.route r h ∷ []) (takes-back b.path_role)
