-- Legs that keep their labels, or go without any: the claims and the guards stay.
use Rattle.std.proofs.Common.{◌≡◌, ◌++◌, List, [], ◌∷◌, append_assoc, drop, length, map, refl, sym, ap, ◌∙◌}
use Rattle.ason_base.specs.{declared.tables.Leg.Leg, Network.row_of, declared.network.LinkSpec.LinkSpec, declared.network.TeRow.TeRow}
use Rattle.mesh_rules.specs.{Changes.learnt_after, LocalNodes.LocalNode}
use Rattle.link_owner.specs.Owners.{OwnerState}
use Rattle.share_check.specs.Guards.{Guard}
use Rattle.leg_table.specs.{LegClaims.{AreOfOneNode, LabelsFit, OwnerFits, SameFibres}, States.{learnt_rows, local_of}, Tables.LegTable}

-- What is held stays

-- Claims

-- Guards

pub fibres-stay : (p : LocalNode) (o after : OwnerState) → OwnerFits p o → SameFibres o after →
    OwnerFits p after
fibres-stay p o after fit same = record {
  fibres = λ f. same.fibres f ∙ fit.fibres f;
  labels = λ f comes. same.labels f ∙ fit.labels f (sym (same.fibres f) ∙ comes);
  marked = λ f. same.marked f ∙ fit.marked f;
}

-- The rows that are known

-- these rows, and others after them
abbrev BeginWith : List LinkSpec → List TeRow → Type 0
BeginWith own rows = (more : List TeRow) × (rows ≡ map row_of own ++ more)

begin-then : (own : List LinkSpec) (new rows : List TeRow) → BeginWith own rows → BeginWith own (learnt_after new rows)
begin-then own [] rows begin = begin
begin-then own (row ∷ new) rows begin =
    begin-then own new (rows ++ row ∷ [])
    (begin.0 ++ row ∷ [], ap (λ rs. rs ++ row ∷ []) begin.1 ∙ append_assoc (map row_of own) begin.0 (row ∷ []))

begin-drop : (own : List LinkSpec) (rows : List TeRow) → BeginWith own rows →
    rows ≡ map row_of own ++ drop (length own) rows
begin-drop own rows begin = begin.1 ∙ ap (λ rs. map row_of own ++ rs) (sym (ap (drop (length own)) begin.1 ∙ dropped own))
  where
    dropped : (xs : List LinkSpec) → drop (length xs) (map row_of xs ++ begin.0) ≡ begin.0
    dropped [] = refl
    dropped (x ∷ xs) = dropped xs

-- after changes of legs, and rows that were learnt
pub node-after : (t : LegTable) (new : List TeRow) (legs : List Leg) (o after : OwnerState) (s left : List Guard) →
    AreOfOneNode t o s → LabelsFit legs after left → SameFibres o after →
    AreOfOneNode (record t { legs = legs; rows = learnt_after new t.rows }) after left
node-after t new legs o after s left node labels same = record {
  labels = labels;
  fibres = fibres-stay (local_of t) o after node.fibres same;
  rows = begin-drop t.own (learnt_after new t.rows) (begin-then t.own new t.rows (learnt_rows t, node.rows));
}
