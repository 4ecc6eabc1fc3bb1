-- A node's answer to any input fits, and so does the node after it.
use Rattle.std.proofs.Common.{◌≡◌, ◌≤◌, ◌∙◌, List, [], length, ap, sym, subst, Ok, Err, arith}
use Rattle.std.specs.Prelude.{OnErr}
use Rattle.ason_base.specs.{Network.{IsTopology, Network}, declared.ids.NodeId.NodeId, declared.tables.Out.Out}
use Rattle.link_owner.specs.Owners.{OwnerState, unowned}
use Rattle.share_check.specs.Guards.{Guard}
use Rattle.mesh_rules.specs.{LocalNodes.local_node, Changes.{Answer, changed, learns, nothing}, KnownRows.{has_row, known_rows}, State.new_node}
use Rattle.mesh_nodes.proofs.{NewNodes.new-fits, Cases.if_cases, LearnsNothing.{item-learns_nothing, message-learns_nothing, tick-learns_nothing}, routes.Learnt.{learning-fits, rows-stay_fit, same-rows_fit}, routes.Topologies.new-rows, Items.items-fit, Messages.messages-fit, Ticks.{tick-kept, ticks-fit}}
use Rattle.leg_table.specs.{Fits.TablesFit, Handled.{CallsFollow, Handed, MayBeCarriedOut}, LegClaims.AreOfOneNode, States.{local_of, no_call, state_of}, Tables.{CallTable, LegTable, new_table}}
use Rattle.leg_table.proofs.AtStart.{at_start-fits, at_start-is}
use Rattle.leg_carrying.proofs.{CallLegs.FineLegs, RuleChanges.{item-may, message-may, tick-may}}
use Rattle.mesh_nodes.specs.{FitNodes.NodeFits, Routes.RowsFit, Sent.AnswerFits, declared.inputs.Input.Input, declared.inputs.Input.TheVariants.{Message, Desk, Tick, Learn}, Nodes.{IsAnswerOf, IsNode, IsWritableInput, MayTake, NodeView, answer_to}}
use Rattle.node_core.specs.Nodes.{node_view_of}

pub answer-fits : (n : NodeView) (i : Input) → IsNode n → length n.state.calls ≤ 65536 →
    AnswerFits n.place n.state (IsWritableInput i) (answer_to n i)
answer-fits n (Message u m) fits few = messages-fit n.place n.state u m fits.place fits.state
answer-fits n (Desk item) fits few = items-fit n.place n.state item fits.place fits.state
answer-fits n Tick fits few = ticks-fit n.place n.state fits.state few
answer-fits n (Learn row) fits few = learning-fits n.place n.state row fits.state

kept-fits : (n : NodeView) (i : Input) → IsNode n → NodeFits n.place (changed n.state (answer_to n i))
kept-fits n (Message u m) fits = (messages-fit n.place n.state u m fits.place fits.state).kept
kept-fits n (Desk item) fits = (items-fit n.place n.state item fits.place fits.state).kept
kept-fits n Tick fits = tick-kept n.place n.state fits.state
kept-fits n (Learn row) fits = (learning-fits n.place n.state row fits.state).kept

rows-fit : (n : NodeView) (i : Input) → IsNode n → MayTake n i → RowsFit n.place (changed n.state (answer_to n i))
rows-fit n (Message u m) fits may =
    same-rows_fit n.place n.state (answer_to n (Message u m)) (message-learns_nothing n.place n.state u m) fits.rows
rows-fit n (Desk item) fits may =
    same-rows_fit n.place n.state (answer_to n (Desk item)) (item-learns_nothing n.place n.state item) fits.rows
rows-fit n Tick fits may =
    same-rows_fit n.place n.state (answer_to n Tick) (tick-learns_nothing n.place n.state) fits.rows
rows-fit n (Learn row) fits may = rows-stay_fit n.place n.state row fits.rows may

-- the node after an answer of it
pub answered-fits : (n : NodeView) (a : Answer) → IsNode n → IsAnswerOf n a →
    IsNode (record { place = n.place; state = changed n.state a })
answered-fits n a fits (i, may, is) = record {
  place = fits.place;
  state = subst (λ b. NodeFits n.place (changed n.state b)) (sym is) (kept-fits n i fits);
  rows = subst (λ b. RowsFit n.place (changed n.state b)) (sym is) (rows-fit n i fits may);
}

-- it may be carried out, whatever is sent with it
pub answered-may : (t : LegTable) (c : CallTable) (a : Answer) (sent : List Out) → IsNode (node_view_of t c) →
    IsAnswerOf (node_view_of t c) (record a { sent = sent }) → MayBeCarriedOut t a
answered-may t c a sent fits (i, may, is) =
    let fine = subst (FineLegs n.place n.state.legs) (sym is) (by_input i) in
    let after = answered-fits n (record a { sent = sent }) fits (i, may, is) in
    record { may = fine.0; marks = fine.1; few = after.state.legs.few }
  where
    n : NodeView
    n = node_view_of t c

    by_input : (i : Input) → FineLegs n.place n.state.legs (answer_to n i)
    by_input (Message u m) =
        message-may n.place n.state u m fits.place fits.state.legs.each
    by_input (Desk item) =
        item-may n.place n.state item fits.place fits.state.legs.each fits.state.calls.each
    by_input Tick = tick-may n.place n.state
    by_input (Learn row) =
        if_cases (FineLegs n.place n.state.legs) (has_row (known_rows n.place n.state) row.link) nothing (learns row)
        (λ known. (tt, tt)) (λ none. (tt, tt))

-- after want of memory the node is as it was
pub unchanged : (handed : Handed) (t : LegTable) (o : OwnerState) (c : CallTable) (after : LegTable)
    (claimed : OwnerState) (calls : CallTable) (a : Answer) → CallsFollow handed t o c after claimed calls a →
    OnErr handed (node_view_of after calls ≡ node_view_of t c)
unchanged (Ok outs) t o c after claimed calls a done = tt
unchanged (Err e) t o c after claimed calls a done = λ i. node_view_of (done.err i) (done.err_calls i)

-- it is carried out, whatever is sent with it, or the node is as it was
pub carried-fits : (handed : Handed) (t : LegTable) (o : OwnerState) (c : CallTable) (after : LegTable)
    (claimed : OwnerState) (calls : CallTable) (a : Answer) (sent : List Out) → IsNode (node_view_of t c) →
    IsAnswerOf (node_view_of t c) (record a { sent = sent }) → CallsFollow handed t o c after claimed calls a →
    IsNode (node_view_of after calls)
carried-fits (Ok outs) t o c after claimed calls a sent fits of done =
    let is : node_view_of after calls ≡ record { place = local_of t; state = changed (state_of t c) a } =
    λ i. record { place = done.local i; state = done.ok i } in
    subst IsNode (sym is) (answered-fits (node_view_of t c) (record a { sent = sent }) fits of)
carried-fits (Err e) t o c after claimed calls a sent fits of done =
    subst IsNode (sym (unchanged (Err e) t o c after claimed calls a done)) fits

-- Tables, owner and shares

pub tables-fit : (t : LegTable) (c : CallTable) (o : OwnerState) (s : List Guard) → IsNode (node_view_of t c) →
    AreOfOneNode t o s → TablesFit t o s
tables-fit t c o s fits node =
    let first = fits.state.first in
    let numbers = fits.state.numbers in
    record { links = fits.place; legs = (c.lsp, omega arith, fits.state.legs); node = node }

pub new-fit : (t : Network) (n : NodeId) (s : LegTable) (o : OwnerState) (g : List Guard) (c : CallTable) →
    IsTopology t → s ≡ new_table t n → o ≡ unowned t n → g ≡ [] → c ≡ no_call →
    IsNode (node_view_of s c) × AreOfOneNode s o g
new-fit t n s o g c valid is owner guards calls =
    let fits = at_start-fits t n s valid is in
    let state : state_of s c ≡ new_node = ap (state_of s) calls ∙ (at_start-is t n s is).1 in
    let kept = subst (NodeFits (local_of s)) (sym state) (new-fits (local_of s)) in
    let rows : RowsFit (local_of s) (state_of s c) =
    subst (RowsFit (local_of s)) (sym state) (subst (λ p. RowsFit p new_node) (sym (at_start-is t n s is).0)
    (new-rows t n valid)) in (
      record { place = fits.links; state = kept; rows = rows },
      subst (AreOfOneNode s o) (sym guards) (subst (λ w. AreOfOneNode s w []) (sym owner) fits.node),
    )

pub new-is : (t : Network) (n : NodeId) (s : LegTable) (c : CallTable) → s ≡ new_table t n → c ≡ no_call →
    node_view_of s c ≡ record { place = local_node t n; state = new_node }
new-is t n s c is calls =
    let here = at_start-is t n s is in
    let state : state_of s c ≡ new_node = ap (state_of s) calls ∙ here.1 in
    λ i. record { place = here.0 i; state = state i }
