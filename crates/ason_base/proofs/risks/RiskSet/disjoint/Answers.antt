use Rattle.std.proofs.Common.{◌≡◌, ◌∙◌, ◌↔◌, IsTrue, subst}
use Rattle.ason_base.specs.Risks.{AreDisjoint}
use Rattle.ason_base.proofs.RiskOrder.{apart-exact}
use Rattle.ason_base.proofs.risks.RiskSet.disjoint.Goals as goal

pub returns-clause-apart : goal.returns-clause-apart
returns-clause-apart c =
    let a : c.deref.result.now ≡ c.args.self.now = c.deref.ensures.value ∙ c.self.view_is in
    let b : c.deref-2.result.now ≡ c.args.other.now = c.deref-2.ensures.value ∙ c.other.view_is in
    subst (λ x. IsTrue c.are_disjoint.result ↔ AreDisjoint x c.args.other.now) a
    (subst (λ y. IsTrue c.are_disjoint.result ↔ AreDisjoint c.deref.result.now y) b c.are_disjoint.ensures)

pub returns-clause-exact : goal.returns-clause-exact
returns-clause-exact c = apart-exact c.are_disjoint.result c.args.self.now c.args.other.now (returns-clause-apart c)
