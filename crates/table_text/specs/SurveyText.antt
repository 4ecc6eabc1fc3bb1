-- The text of a survey: what each risk group would hit, and which calls would contend.
use Rattle.std.specs.{Prelude.{ℕ, Bool, List, [], ◌∷◌, ◌++◌, codes, Option, Some, None, if◌then◌else◌}, List.flat_map, Fmt.decimal}
use Rattle.ason_base.specs.{declared.commands.Group.Group, declared.commands.Group.TheVariants.{Srlg, Link}, declared.ids.CallNo.CallNo, declared.ids.Fibre.Fibre, declared.ids.NodeId.NodeId, Network.receiver_of}
use Rattle.mesh_laws.specs.{declared.survey.Contend.Contend, declared.survey.Hit.Hit}
use Rattle.plan_reader.specs.declared.plan.Plan.{Plan}
use Rattle.table_text.specs.TableText.{call_name, node_name}

-- Parts

-- `srlg N` or `link N`
abbrev pub group_text : Group → List ℕ
group_text (Srlg n) = codes "srlg " ++ decimal n
group_text (Link k) = codes "link " ++ decimal k.0

-- the group behind a word
abbrev pub group_after : List ℕ → Group → List ℕ
group_after word g = word ++ group_text g

-- a further call, with a comma in front
abbrev pub more_name : Plan → CallNo → List ℕ
more_name p c = codes "," ++ call_name p c

-- the calls' names, joined by commas; `-` where there is none
abbrev pub names_text : Plan → List CallNo → List ℕ
names_text p [] = codes "-"
names_text p (c ∷ calls) = call_name p c ++ flat_map (more_name p) calls

-- the names behind a word
abbrev pub names_after : Plan → List ℕ → List CallNo → List ℕ
names_after p word calls = word ++ names_text p calls

abbrev pub name_of : Plan → Option NodeId → List ℕ
name_of p None = []
name_of p (Some n) = node_name p n

-- the node that keeps the fibre's labels: the one into which it leads
abbrev pub owner_name : Plan → Fibre → List ℕ
owner_name p f = name_of p (receiver_of p.topology f)

-- Lines

abbrev pub calm_line : Bool → List ℕ
calm_line calm = if calm then codes "survey calm yes\n" else codes "survey calm no\n"

-- `group GROUP guarded NAMES bare NAMES`
abbrev pub hit_line : Plan → Hit → List ℕ
hit_line p h =
    group_after (codes "group ") h.group ++ names_after p (codes " guarded ") h.guarded
    ++ names_after p (codes " bare ") h.bare ++ codes "\n"

-- ` LINK/LABEL NODE`
abbrev pub label_place : Plan → Contend → List ℕ
label_place p c =
    codes " " ++ decimal c.fibre.link.0 ++ codes "/" ++ decimal c.label ++ codes " " ++ owner_name p c.fibre

-- ` NAME NAME`
abbrev pub both_names : Plan → Contend → List ℕ
both_names p c = codes " " ++ call_name p c.one ++ codes " " ++ call_name p c.two ++ codes "\n"

-- `contend GROUP GROUP LINK/LABEL NODE NAME NAME`
abbrev pub contend_line : Plan → Contend → List ℕ
contend_line p c =
    group_after (codes "contend ") c.first ++ group_after (codes " ") c.second ++ label_place p c ++ both_names p c

-- whether it is calm, then a line a group that hits a call
abbrev pub survey_start : Plan → Bool → List Hit → List ℕ
survey_start p calm hits = calm_line calm ++ flat_map (hit_line p) hits

-- and then a line each two calls that would contend
abbrev pub survey_text : Plan → Bool → List Hit → List Contend → List ℕ
survey_text p calm hits contends = survey_start p calm hits ++ flat_map (contend_line p) contends
