use Rattle.std.proofs.{Common.{◌≡◌, ◌∙◌, ◌++◌, ℕ, List, ap, codes, map, string_bytes, subst}, lemmas.Result.IfOk-weaker}
use Rattle.ason_base.specs.{declared.ids.NodeId.NodeId, declared.network.TeRow.TeRow, Network.{IsTopology, row_of}, Walks.{NoLink, NoNode}}
use Rattle.route_least.specs.{Answers.JoinsNone, declared.answers.Found.Found}
use Rattle.route_pair.specs.Pairs.{HasNoBackup, IsBackupFound, IsPairFault, IsPrimary}
use Rattle.mesh_nodes.specs.Routes.{AreSearchable}
use Rattle.mesh_nodes.proofs.routes.Topologies.{rows-searchable}
use Rattle.plan_reader.specs.declared.plan.Plan.{Plan}
use Rattle.table_text.specs.RouteText.{found_text, plan_rows, primary_line, route_line, routes_text}
use Rattle.table_text.proofs.{FoundRoutes.{both_told, none_told, primary_told}, PlanRows.searchable, routes.between.Goals.After-pair_in}
use Rattle.table_text.proofs.routes.between.Goals as goal

pub new-requires : goal.new-requires
new-requires c =
    let are = searchable c.args.plan.now.topology _ _ c.requires c.links.ensures.list
    (c.deref.ensures.value ∙ c.in_ok-rows.ensures) in
    record { ends = are.ends; metrics = are.metrics; links = are.links }

-- what is found is told
module _ (p : Plan) (valid : IsTopology p.topology) (rows : List TeRow) (same : rows ≡ plan_rows p)
    (from to : NodeId) where
  can_be_asked : AreSearchable (plan_rows p)
  can_be_asked = rows-searchable p.topology valid

  both : (a b : Found) (text : List ℕ) → IsPrimary rows from to a → IsBackupFound rows a.route from to b →
      text ≡ found_text p (primary_line a.route a.cost ++ route_line (codes "backup") b.route b.cost) a.potential →
      text ≡ routes_text p from to
  both a b text is second told = told ∙ both_told p can_be_asked from to a b
      (subst (λ rs. IsPrimary rs from to a) same is) (subst (λ rs. IsBackupFound rs a.route from to b) same second)

  primary : (a : Found) (text : List ℕ) → IsPrimary rows from to a × HasNoBackup rows a.route from to →
      text ≡ found_text p (primary_line a.route a.cost ++ codes "no backup\n") a.potential →
      text ≡ routes_text p from to
  primary a text is told = told ∙ primary_told p can_be_asked from to a
      (subst (λ rs. IsPrimary rs from to a) same is.0) (subst (λ rs. HasNoBackup rs a.route from to) same is.1)

  none : (entries : List (NodeId × ℕ)) (text : List ℕ) → JoinsNone rows NoLink NoNode from to entries →
      text ≡ found_text p (codes "no primary\n") entries → text ≡ routes_text p from to
  none entries text is told = told ∙ none_told p can_be_asked from to entries
      (subst (λ rs. JoinsNone rs NoLink NoNode from to entries) same is)

-- the rows that are searched are those of the plan
searched : (c : After-pair_in) → c.deref-2.result.now ≡ plan_rows c.args.plan.now
searched c = c.deref-2.ensures.value ∙ (c.in_ok-rows.ensures ∙ ap (map row_of) c.links.ensures.list)

pub returns-in-Ok : goal.returns-in-Ok
returns-in-Ok c =
    IfOk-weaker c.both_told.result _ _
    (λ text told. both c.args.plan.now c.requires _ (searched (goal.at.returns-in-Ok c).After-pair_in) c.args.from
    c.args.to c.in-Ok.pair.primary c.in-Ok.pair.backup (string_bytes text) c.in-Ok.ensures.primary
    c.in-Ok.ensures.backup told) c.both_told.ensures

pub returns-in-Err-NoPrimary : goal.returns-in-Err-NoPrimary
returns-in-Err-NoPrimary c =
    let p = c.args.plan.now in
    IfOk-weaker c.none_told.result _ _
    (λ text told. none p c.requires _ (searched (goal.at.returns-in-Err-NoPrimary c).After-pair_in) c.args.from
    c.args.to c.in-Err-NoPrimary.potential (string_bytes text)
    (subst (IsPairFault c.deref-2.result.now c.args.from c.args.to) c.in-Err-NoPrimary.field-0-is
    c.in-Err-NoPrimary.ensures.fault) (told ∙ ap (found_text p (codes "no primary\n")) c.items.ensures))
    c.none_told.ensures

pub returns-in-Err-NoBackup : goal.returns-in-Err-NoBackup
returns-in-Err-NoBackup c =
    IfOk-weaker c.primary_told.result _ _
    (λ text told. primary c.args.plan.now c.requires _ (searched (goal.at.returns-in-Err-NoBackup c).After-pair_in)
    c.args.from c.args.to c.in-Err-NoBackup.primary (string_bytes text)
    (subst (IsPairFault c.deref-2.result.now c.args.from c.args.to) c.in-Err-NoBackup.field-0-is
    c.in-Err-NoBackup.ensures.fault) told) c.primary_told.ensures
