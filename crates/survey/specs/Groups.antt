-- A risk group with its links, and the calls that its failure would hit.
use Rattle.std.specs.{Prelude.{◌==◌, ◌&&◌, ◌++◌, ℕ, Bool, true, false, List, [], ◌∷◌, map, filter, Option, Some, None}, List.list_any}
use Rattle.ason_base.specs.{Lsps.same_bool, declared.commands.Group.Group, declared.commands.Group.TheVariants.{Srlg, Link}, declared.ids.CallNo.CallNo, declared.ids.LinkId.LinkId, declared.network.LinkSpec.LinkSpec}
use Rattle.mesh_rules.specs.Failures.{is_cut}
use Rattle.mesh_laws.specs.declared.survey.Hit.{Hit}
use Rattle.survey.specs.{declared.groups.GroupLinks.GroupLinks, declared.views.CallView.CallView, Views.is_guarded}

-- the links that fail with the group
abbrev pub links_of : Group → List LinkSpec → List LinkId
links_of g links = map (λ l. l.id) (filter (λ l. is_cut (g ∷ []) l) links)

abbrev pub with_links : List LinkSpec → Group → GroupLinks
with_links links g = record { group = g; links = links_of g links }

-- the SRLGs of these numbers, and then the links
abbrev pub both_kinds : List LinkSpec → List ℕ → List GroupLinks
both_kinds links numbers =
    map (λ n. with_links links (Srlg n)) numbers ++ map (λ l. with_links links (Link l.id)) links

-- the link is one of these
abbrev pub is_over : List LinkId → Option LinkId → Bool
is_over links None = false
is_over links (Some k) = list_any (λ l. l.0 == k.0) links

-- a Live leg of its working LSP leads out over a link of the group
abbrev pub is_hit : GroupLinks → CallView → Bool
is_hit g v = list_any (λ r. is_over g.links r.out_link) v.live

-- the call is guarded, or isn't, as is asked, and hit
abbrev pub is_hit_so : GroupLinks → Bool → CallView → Bool
is_hit_so g guarded v = same_bool (is_guarded v) guarded && is_hit g v

abbrev pub hit_numbers : GroupLinks → Bool → List CallView → List CallNo
hit_numbers g guarded views = map (λ v. v.call.call) (filter (is_hit_so g guarded) views)

-- where there are such calls, the group with them
abbrev pub hit_with : Group → List CallNo → List CallNo → List Hit
hit_with g [] [] = []
hit_with g (n ∷ guarded) bare = record { group = g; guarded = n ∷ guarded; bare = bare } ∷ []
hit_with g [] (n ∷ bare) = record { group = g; guarded = []; bare = n ∷ bare } ∷ []

-- what the group hits of these calls, and any
abbrev pub hit_in : List CallView → GroupLinks → List Hit
hit_in views g = hit_with g.group (hit_numbers g true views) (hit_numbers g false views)
