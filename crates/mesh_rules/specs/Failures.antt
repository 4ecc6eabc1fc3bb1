-- Groups that fail and are repaired, and what the nodes are told of it (shared risk link groups: RFC 4202, section 2.3).
use Rattle.std.specs.{Prelude.{ℕ, ◌==◌, Bool, true, false, not, List, [], ◌∷◌, ◌++◌, filter, flat_map, if◌then◌else◌}, List.list_any}
use Rattle.ason_base.specs.{Lsps.same_bool, Network.Network, declared.ids.Fibre.Fibre, declared.commands.Command.Command, declared.commands.Command.TheVariants.{Setup, Release, Protect, Retry, Revert, Fail, Repair}, declared.commands.DeskItem.DeskItem, declared.commands.DeskItem.TheVariants.{Alarm, Clear}, declared.commands.Group.Group, declared.commands.Group.TheVariants.{Srlg, Link}, declared.network.LinkSpec.LinkSpec}
use Rattle.mesh_rules.specs.Machine.{Mesh}

-- Groups

abbrev pub same_group : Group → Group → Bool
same_group (Srlg a) (Srlg b) = a == b
same_group (Srlg a) (Link b) = false
same_group (Link a) (Srlg b) = false
same_group (Link a) (Link b) = a.0 == b.0

abbrev pub has_group : List Group → Group → Bool
has_group groups g = list_any (same_group g) groups

-- with this group, once
abbrev pub with_group : Group → List Group → List Group
with_group g groups = if has_group groups g then groups else groups ++ g ∷ []

abbrev pub without_group : Group → List Group → List Group
without_group g groups = filter (λ h. not (same_group g h)) groups

-- which groups have failed after a command, where these had before
abbrev pub failed_after : Command → List Group → List Group
failed_after (Setup n from to protected both via backup) groups = groups
failed_after (Release n from) groups = groups
failed_after (Protect n from) groups = groups
failed_after (Retry n from) groups = groups
failed_after (Revert n from) groups = groups
failed_after (Fail g) groups = with_group g groups
failed_after (Repair g) groups = without_group g groups

-- the group is one of the link's risks
abbrev pub is_risk_of : LinkSpec → Group → Bool
is_risk_of l (Srlg s) = list_any (λ r. r == s) l.srlgs
is_risk_of l (Link k) = l.id.0 == k.0

-- one of the link's risks has failed: both its fibres are physically down
abbrev pub is_cut : List Group → LinkSpec → Bool
is_cut failed l = list_any (is_risk_of l) failed

-- Alarms and clears

-- what the fibre's receiver is told
abbrev pub news : Bool → Fibre → DeskItem
news true f = Alarm f
news false f = Clear f

-- to the node into which the fibre leads
abbrev pub news_at : ℕ → ℕ → Bool → Fibre → List DeskItem
news_at n receiver cut f = if receiver == n then news cut f ∷ [] else []

-- what the node n is told of a link: of the fibre forward, then of the other one
abbrev pub link_news : ℕ → Bool → LinkSpec → List DeskItem
link_news n cut l =
    news_at n l.high.0 cut (record { link = l.id; forward = true })
    ++ news_at n l.low.0 cut (record { link = l.id; forward = false })

-- of a link whose fibres went down or came up, where other groups have failed than before
abbrev pub changed_news : List Group → List Group → ℕ → LinkSpec → List DeskItem
changed_news before after n l =
    if same_bool (is_cut before l) (is_cut after l) then [] else link_news n (is_cut after l) l

-- of each link, in order
abbrev pub all_news : Network → List Group → List Group → ℕ → List DeskItem
all_news t before after n = flat_map (changed_news before after n) t.links

-- these groups have failed now, and the nodes are told what has changed
abbrev pub with_failed : Network → Mesh → List Group → Mesh
with_failed t s after = record s {
  desks = λ n. s.desks n ++ all_news t s.failed after n;
  failed = after;
}
