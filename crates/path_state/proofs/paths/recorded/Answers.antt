use Rattle.std.proofs.Common.{◌≡◌, ◌∙◌, false, List, ap, sym, subst}
use Rattle.std.specs.{Prelude.{IfErr, IfOk, OnOk, IsTrue, Option, Some, None, is_some}, declared.result.Result.Result, declared.result.Result.TheVariants.{Ok, Err}}
use Rattle.ason_base.specs.{Risks.{route_risks, unknown_link}, declared.ids.LinkId.LinkId, declared.network.TeRow.TeRow, declared.risks.Risk.Risk, declared.risks.RiskFault.RiskFault, declared.risks.RiskFault.TheVariants.Unknown, declared.steps.Step.Step}
use Rattle.mesh_rules.specs.Paths.{is_primary_unknown, recorded}
use Rattle.path_state.specs.Answers.{IsUnknownFor, known_here}
use Rattle.path_state.proofs.paths.recorded.Goals as goal

known-none : (r : Result (List Risk) RiskFault) (o : Option LinkId) → OnOk r (o ≡ None) → OnOk r (is_some o ≡ false)
known-none (Ok set) o none = ap is_some none
known-none (Err fault) o none = tt

-- a link of the route that a fault names isn't known
abbrev UnknownIn : List TeRow → List Step → RiskFault → Type 0
UnknownIn rows route f = (l : LinkId) → f ≡ Unknown l → IsTrue (is_some (unknown_link rows route))

unknown-some : (r : Result (List Risk) RiskFault) (o : Option LinkId) →
    IfErr r (λ f. (l : LinkId) → f ≡ Unknown l → o ≡ Some l) →
    IfErr r (λ f. (l : LinkId) → f ≡ Unknown l → IsTrue (is_some o))
unknown-some (Ok set) o some = tt
unknown-some (Err fault) o some = λ l is. ap is_some (some l is)

pub returns-in-Back-clause-ok : goal.returns-in-Back-clause-ok
returns-in-Back-clause-ok c =
    let rows : c.rows.result.now ≡ known_here c.args.tables.now = c.rows.ensures ∙ c.requires in
    subst (λ r. IfOk c.of.result (λ x. x ≡ recorded (known_here c.args.tables.now) r)) (sym c.in-Back.is)
    (subst (λ rows. IfOk c.of.result (λ x. x ≡ route_risks rows c.in-Back.primary)) rows c.of.ensures.exact)

pub returns-in-Back-clause-known : goal.returns-in-Back-clause-known
returns-in-Back-clause-known c =
    let rows : c.rows.result.now ≡ known_here c.args.tables.now = c.rows.ensures ∙ c.requires in
    subst (λ r. OnOk c.of.result (is_primary_unknown (known_here c.args.tables.now) r ≡ false)) (sym c.in-Back.is)
    (subst (λ rows. OnOk c.of.result (is_some (unknown_link rows c.in-Back.primary) ≡ false)) rows
    (known-none c.of.result (unknown_link c.rows.result.now c.in-Back.primary) c.of.ensures.known))

pub returns-in-Back-clause-unknown : goal.returns-in-Back-clause-unknown
returns-in-Back-clause-unknown c =
    let rows : c.rows.result.now ≡ known_here c.args.tables.now = c.rows.ensures ∙ c.requires in
    subst (λ r. IfErr c.of.result (IsUnknownFor c.args.tables.now r)) (sym c.in-Back.is)
    (subst (λ rows. IfErr c.of.result (UnknownIn rows c.in-Back.primary)) rows
    (unknown-some c.of.result (unknown_link c.rows.result.now c.in-Back.primary) c.of.ensures.unknown))
