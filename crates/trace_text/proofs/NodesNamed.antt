-- Nodes of a plan are found by their names.
use Rattle.std.proofs.{Common.{◌≡◌, ◌∙◌, ◌==◌, ℕ, Bool, true, List, [], Option, Some, None, position, get_or, unwrap_or, refl, ap, arith}, lemmas.List.Quantifiers.position-Some, lemmas.Option.slice_get-get_or}
use Rattle.std.specs.Prelude.{is_some}
use Rattle.ason_base.specs.{Network.is_node_id, declared.ids.NodeId.NodeId, declared.network.NodeSpec.NodeSpec}
use Rattle.plan_reader.specs.{FoundNames.{FindsByName, IsFoundAt}, Names.is_name, PlanTexts.{id_at, id_at_place}, declared.plan.Plan.Plan}
use Rattle.plan_reader.proofs.Places.{any_at}
use Rattle.table_text.specs.TableText.{name_at_place, node_name}
use Rattle.trace_text.specs.{EntryForms.node_of, RoundTrip.IsNodeNamed}

-- each node of a plan is found by the name that it has
pub node_named : (p : Plan) (n : NodeId) → FindsByName p → is_node_id p.topology.nodes n ≡ true → IsNodeNamed p n
node_named p n finds known = go (position here p.topology.nodes) refl
  where
    here : NodeSpec → Bool
    here m = m.id.0 == n.0

    none : NodeSpec
    none = record { id = n; convert = true }

    at : (k : ℕ) → position here p.topology.nodes ≡ Some k → IsNodeNamed p n
    at k e =
        let passes = position-Some here p.topology.nodes k none e in
        let node : NodeSpec = get_or p.topology.nodes k none in
        let text : List ℕ = get_or p.node_names k [] in
        let below = passes.0 in
        let even = finds.even in
        let number : node.id.0 ≡ n.0 = (let same = passes.1 in grind (arith, same)) in
        let id : node.id ≡ n = λ i. record { 0 = number i } in
        let there = slice_get-get_or p.topology.nodes k none below in
        let written = slice_get-get_or p.node_names k [] (omega (arith, below, even)) in
        let found : IsFoundAt p.node_names k text = finds.nodes k text written in
        let name : node_name p n ≡ text =
        ap (name_at_place p.node_names) e ∙ ap (λ (o : Option (List ℕ)). unwrap_or o []) written in
        let is : node_of p text ≡ Some n =
        ap (id_at_place p.topology.nodes) found.place ∙ (ap id_at there ∙ ap (λ (m : NodeId). Some m) id) in
        record { found = ap (node_of p) name ∙ is; name = ap is_name name ∙ found.name }

    go : (o : Option ℕ) → position here p.topology.nodes ≡ o → IsNodeNamed p n
    go None e = absurd (cc (known, any_at here p.topology.nodes, ap is_some e))
    go (Some k) e = at k e
