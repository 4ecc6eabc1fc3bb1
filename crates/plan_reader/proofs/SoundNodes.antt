-- Nodes that were read have rising ids, and each has a name, by which it is found.
use Rattle.std.proofs.{Common.{◌≡◌, ℕ, true, false, not, nat_lt, arith, length, length-append, List, [], ◌∷◌, Ok, refl, ap, sym, subst, ◌∙◌, ◌+◌}, lemmas.Bool.not-false}
use Rattle.std.specs.Prelude.{Option, Some, None}
use Rattle.toml.specs.Data.{Data}
use Rattle.ason_base.specs.{Network.node_number, declared.network.NodeSpec.NodeSpec}
use Rattle.plan_reader.specs.{FoundNames.AreFoundByName, Names.{has_name, is_name}, PlanTables.{NodeList, converts, has_node_kinds, has_strange, id_in, lacks_node_key, last_node, name_of, no_nodes, with_named, with_plan_node, with_node_of}, Plans.plan_nodes, declared.values.Shape.TheVariants.OfNode}
use Rattle.plan_reader.proofs.{Entries.{as_many, kept, passed}, FoundNames.{none_found, one_more_found}, Rising.{RiseByNumber, rise_more}}

pub record NodesFit (known : NodeList) : Type 0 where
  pub rise : RiseByNumber node_number known.nodes
  pub even : length known.names ≡ length known.nodes
  pub found : AreFoundByName known.names

node_fits :
    (before : NodeList) (name : List ℕ) (node : NodeSpec) → NodesFit before
    → nat_lt (last_node before.nodes) node.id.0 ≡ true → is_name name ≡ true → has_name before.names name ≡ false
    → NodesFit (with_named before name node)
node_fits before name node fit above is absent = record {
  rise = rise_more node_number before.nodes node refl fit.rise above;
  even =
      length-append before.names (name ∷ [])
      ∙ (ap (λ n. n + 1) fit.even ∙ sym (length-append before.nodes (node ∷ [])));
  found = one_more_found before.names name fit.found is absent;
}

-- a node that was read stands behind those before it, above them, and its name is a new one
node_read :
    (before after : NodeList) (d : Data) → with_plan_node before d ≡ Ok after
    → (node : NodeSpec) × (with_named before (name_of d) node ≡ after)
    × (nat_lt (last_node before.nodes) node.id.0 ≡ true) × (is_name (name_of d) ≡ true)
    × (has_name before.names (name_of d) ≡ false)
node_read before after d h = go (id_in d) tested.1
  where
    tested : (not (is_name (name_of d)) ≡ false) × (with_node_of before d (id_in d) ≡ Ok after)
    tested =
        let keys = passed (has_strange OfNode d) _ _ _ h in
        let there = passed (lacks_node_key d) _ _ _ keys.1 in
        let kinds = passed (not (has_node_kinds d)) _ _ _ there.1 in
        passed (not (is_name (name_of d))) _ _ _ kinds.1

    go :
        (o : Option ℕ) → with_node_of before d o ≡ Ok after
        → (node : NodeSpec) × (with_named before (name_of d) node ≡ after)
        × (nat_lt (last_node before.nodes) node.id.0 ≡ true) × (is_name (name_of d) ≡ true)
        × (has_name before.names (name_of d) ≡ false)
    go None e = absurd (cc (e))
    go (Some id) e =
        let above = passed (not (nat_lt (last_node before.nodes) id)) _ _ _ e in
        let fresh = passed (has_name before.names (name_of d)) _ _ _ above.1 in (
          record { id = record { 0 = id }; convert = converts d },
          cc (fresh.1),
          not-false _ above.0,
          not-false _ tested.0,
          fresh.0,
        )

node_kept : (before after : NodeList) (d : Data) → with_plan_node before d ≡ Ok after → NodesFit before → NodesFit after
node_kept before after d h fit =
    let read = node_read before after d h in
    subst NodesFit read.1 (node_fits before (name_of d) read.0 fit read.2 read.3 read.4)

one_node :
    (before after : NodeList) (d : Data) → with_plan_node before d ≡ Ok after
    → length after.nodes ≡ length before.nodes + 1
one_node before after d h =
    let read = node_read before after d h in
    subst (λ (k : NodeList). length k.nodes ≡ length before.nodes + 1) read.1 (length-append before.nodes (read.0 ∷ []))

pub nodes_fit : (ds : List Data) (known : NodeList) → plan_nodes ds ≡ Ok known → NodesFit known
nodes_fit ds known h = kept NodesFit _ with_plan_node node_kept 1 no_nodes ds known h nothing
  where
    nothing : NodesFit no_nodes
    nothing = record { rise = λ k below. absurd (omega arith); even = refl; found = none_found }

pub as_many_nodes : (ds : List Data) (known : NodeList) → plan_nodes ds ≡ Ok known → length known.nodes ≡ length ds
as_many_nodes ds known h =
    let all = as_many (λ (k : NodeList). length k.nodes) _ with_plan_node one_node 1 no_nodes ds known h in
    omega (arith, all)
