-- The label on which a two-way LSP that begins here comes back.
use Rattle.std.proofs.Common.{◌≡◌, ◌∙◌, Bool, true, false, List, [], refl, sym, ap}
use Rattle.std.specs.Prelude.{IfSome, None, Option, Some}
use Rattle.ason_base.specs.{Labels.least, Risks.route_risks, declared.calls.Role.TheVariants.{Back, Work}, declared.ids.LinkId.LinkId, declared.messages.PathRole.PathRole, declared.network.LinkSpec.LinkSpec, declared.risks.Risk.Risk, declared.steps.Step.Step, declared.tables.Leg.Leg}
use Rattle.ason_base.specs.declared.messages.PathRole.TheVariants as path
use Rattle.mesh_rules.specs.{FirstLegs.first_back, KnownRows.known_rows, Legs.{reverse, usable}, LocalNodes.{fibre_out, own_link}, Pairs.{guarding, is_two_way}, Paths.{recorded, role_of}}
use Rattle.mesh_nodes.specs.LocalNodes.{LocalNodeFits}
use Rattle.leg_table.specs.{States.{legs_state, local_of, state_of}, Tables.{CallTable, LegTable}}
use Rattle.leg_labels.proofs.InFibres.{out-comes_back}
use Rattle.call_control.specs.{PairRules.IsPrimaryOf, Rules.{back_here, comes_back}, Searches.RowsAreKnown}

-- the fibre that comes back over a link of the node comes in here
pub own-back : (t : LegTable) (k : LinkId) (o : Option LinkSpec) → LocalNodeFits (local_of t) →
    o ≡ own_link (local_of t) k → IfSome o (λ l. comes_back t l ≡ true)
own-back t k None links is = tt
own-back t k (Some l) links is = out-comes_back (local_of t) k l links (sym is)

-- it is the label of an LSP with this role's Path
back-of : (t : LegTable) (c : CallTable) (both : Bool) (r : PathRole) (risks : List Risk) (out : LinkSpec) →
    risks ≡ recorded (known_rows (local_of t) (legs_state t)) r →
    back_here t both (role_of r) risks out ≡ first_back (local_of t) (state_of t c) both r out
back-of t c false r risks out is = refl
back-of t c true r risks out is =
    ap (λ q. least (usable (local_of t) t.legs (role_of r) q (reverse (fibre_out out (local_of t).id)))) is

-- of a working LSP
pub work_back : (t : LegTable) (c : CallTable) (both guard : Bool) (out : LinkSpec) →
    back_here t both Work [] out ≡ first_back (local_of t) (state_of t c) both (path.Work guard) out
work_back t c both guard out = back-of t c both (path.Work guard) [] out refl

-- of the backup of an LSP whose leg begins here
pub guard_back : (t : LegTable) (c : CallTable) (w : Leg) (route : List Step) (risks : List Risk) (out : LinkSpec) →
    RowsAreKnown t → IsPrimaryOf t w route risks →
    back_here t (is_two_way w) Back risks out
    ≡ first_back (local_of t) (state_of t c) (is_two_way w) (guarding (local_of t) w) out
guard_back t c w route risks out known primary =
    back-of t c (is_two_way w) (guarding (local_of t) w) risks out
    (primary.risks_are ∙ ap (λ rows. route_risks rows route) known
    ∙ ap (route_risks (known_rows (local_of t) (legs_state t))) primary.route_is)
