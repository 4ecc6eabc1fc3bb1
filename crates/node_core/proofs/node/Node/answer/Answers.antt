use Rattle.std.proofs.Common.{◌∙◌, ap, subst, sym}
use Rattle.mesh_nodes.specs.{Routes.AreSearchable, Sent.AnswerFits, Nodes.{IsWritableInput, answer_to}}
use Rattle.node_core.proofs.Answers.{answer-fits, tables-fit}
use Rattle.node_core.proofs.node.Node.answer.Goals as goal

pub on_input-requires-clause-tables : goal.on_input-requires-clause-tables
on_input-requires-clause-tables c =
    tables-fit c.self.inside.tables c.self.inside.calls c.self.inside.owner c.self.inside.shares c.self.invariant.0
    c.self.invariant.1

pub on_input-requires-clause-rows : goal.on_input-requires-clause-rows
on_input-requires-clause-rows c =
    let known = c.self.invariant.1.rows in
    record { known = known; searchable = subst AreSearchable (sym known) c.self.invariant.0.rows.searchable }

fit : (c : goal.In_ok-change) →
    AnswerFits c.args.self.now.place c.args.self.now.state (IsWritableInput c.args.input.now) c.in_ok-change.change
fit c =
    let n = c.args.self.now in
    let i = c.args.input.now in
    subst (AnswerFits n.place n.state (IsWritableInput i))
    (sym (c.in_ok-change.ensures ∙ ap (λ m. answer_to m i) c.self.view_is))
    (answer-fits n i (record {
      place = c.fits.ensures.place;
      state = c.fits.ensures.state;
      rows =
          c.fits.ensures.rows;
    }) c.fits.ensures.few)

pub returns-clause-near : goal.returns-clause-near
returns-clause-near c = (fit c).near

pub returns-clause-written : goal.returns-clause-written
returns-clause-written c = (fit c).written

pub returns-clause-few : goal.returns-clause-few
returns-clause-few c = (fit c).few
