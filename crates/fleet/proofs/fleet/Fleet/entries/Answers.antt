use Rattle.std.proofs.Common.{◌≡◌, ◌∷◌, map, sym, ap, ◌∙◌, subst}
use Rattle.world_merge.specs.{Lines.lists_left, Picking.{merged_of, lines_total}}
use Rattle.fleet.specs.{Rounds.IsMerged, Standing.FleetState}
use Rattle.fleet.proofs.Merged.{all_lines, fleet-merges, log_of_station}
use Rattle.fleet.proofs.fleet.Fleet.entries.Goals as goal

pub returns-clause-merges : goal.returns-clause-merges
returns-clause-merges c t lines r s =
    let f = c.args.self.now in
    let posts = c.deref.ensures.value ∙ ap (λ (x : FleetState). x.posts) c.self.view_is in
    let stations = c.deref-2.ensures.value ∙ ap (λ (x : FleetState). x.stations) c.self.view_is in
    let same : lists_left c.new.result ≡ f.posts ∷ map log_of_station f.stations =
    c.new.ensures ∙ c.in_ok-lists.ensures ∙ (λ i. (posts i) ∷ map log_of_station (stations i)) in
    subst (λ ls. IsMerged t r (merged_of ls)) (sym same) (fleet-merges c.every_merging.ensures.merges f t lines r s)

pub returns-clause-count : goal.returns-clause-count
returns-clause-count c =
    let f = c.args.self.now in
    let posts = c.deref.ensures.value ∙ ap (λ (x : FleetState). x.posts) c.self.view_is in
    let stations = c.deref-2.ensures.value ∙ ap (λ (x : FleetState). x.stations) c.self.view_is in
    let same : lists_left c.new.result ≡ f.posts ∷ map log_of_station f.stations =
    c.new.ensures ∙ c.in_ok-lists.ensures ∙ (λ i. (posts i) ∷ map log_of_station (stations i)) in
    c.every_merging.ensures.count (lists_left c.new.result) ∙ (ap lines_total same ∙ all_lines f)
