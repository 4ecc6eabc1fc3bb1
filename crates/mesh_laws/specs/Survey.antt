-- Of the rows of a table: which calls the failure of each risk group would hit, and which two calls would contend for a
-- label if two groups failed (shared risk link groups: RFC 4202, section 2.3).
use Rattle.std.specs.{Prelude.{◌==◌, ◌&&◌, ◌||◌, ◌++◌, ℕ, nat_lt, Bool, true, false, not, List, [], ◌∷◌, map, filter, flat_map, Option, Some, None, if◌then◌else◌}, List.list_any}
use Rattle.ason_base.specs.{InOrder.in_order, Lsps.is_lsp, Network.Network, declared.calls.CallRow.CallRow, declared.calls.LegRow.LegRow, declared.calls.Phase.Phase, declared.calls.Phase.TheVariants.Live, declared.commands.Group.Group, declared.commands.Group.TheVariants.{Srlg, Link}, declared.ids.CallNo.CallNo, declared.ids.LinkId.LinkId, declared.ids.NodeId.NodeId, declared.network.LinkSpec.LinkSpec}
use Rattle.mesh_rules.specs.Legs.{is_beyond_asked, is_label, is_work}
use Rattle.mesh_laws.specs.{AloneLaw.is_on_link, declared.survey.Contend.Contend, declared.survey.Hit.Hit}

-- The network's SRLGs, rising, and then its links.
abbrev pub groups_of : Network → List Group
groups_of t = map Srlg (in_order nat_lt (flat_map (λ l. l.srlgs) t.links)) ++ map (λ l. Link l.id) t.links

-- One call, by the rows of its legs

abbrev pub is_live : Phase → Bool
is_live Live = true
is_live _ = false

-- the group is a risk of the link
abbrev pub leads_over : Network → Group → Option LinkId → Bool
leads_over t g None = false
leads_over t g (Some k) = is_on_link t g k

abbrev pub is_link : Option LinkId → LinkId → Bool
is_link None k = false
is_link (Some l) k = l.0 == k.0

-- a Live leg of its working LSP leads out over a link of the group
abbrev pub hits : Network → List LegRow → Group → CallRow → Bool
hits t legs g c =
    list_any (λ r. is_lsp c.work r.lsp && (is_work r.role && (is_live r.phase && leads_over t g r.out_link))) legs

-- its ingress has its backup's leg, Held, Armed or Live
abbrev pub is_guarded_row : List LegRow → CallRow → Bool
is_guarded_row legs c =
    list_any (λ r. is_lsp c.back r.lsp && (r.node.0 == c.ingress.0 && is_beyond_asked r.phase)) legs

-- this label of this link
abbrev pub is_link_label : Option LinkId → Option ℕ → LinkId → ℕ → Bool
is_link_label link label k x = is_link link k && is_label label x

-- the leg takes this label of the fibre that comes in over this link at its node: as its label in where it comes in
-- over the link, as its back label in where it goes out over it
abbrev pub row_takes : LinkId → ℕ → LegRow → Bool
row_takes k x r = is_link_label r.in_link r.in_label k x || is_link_label r.out_link r.back_in k x

-- its backup takes this label of the fibre that comes in over this link at this node
abbrev pub takes_at : List LegRow → NodeId → LinkId → ℕ → CallRow → Bool
takes_at legs n k x c = list_any (λ r. is_lsp c.back r.lsp && (r.node.0 == n.0 && row_takes k x r)) legs

-- What a group hits

abbrev pub call_numbers : List CallRow → List CallNo
call_numbers calls = map (λ c. c.call) calls

-- where a group hits these calls, and any
abbrev pub hit_of : List LegRow → Group → List CallRow → List Hit
hit_of legs g [] = []
hit_of legs g (c ∷ calls) = record {
  group = g;
  guarded = call_numbers (filter (is_guarded_row legs) (c ∷ calls));
  bare = call_numbers (filter (λ d. not (is_guarded_row legs d)) (c ∷ calls));
} ∷ []

-- each group that hits a call, with the calls in order
abbrev pub hits_of : Network → List CallRow → List LegRow → List Hit
hits_of t calls legs = flat_map (λ g. hit_of legs g (filter (hits t legs g) calls)) (groups_of t)

-- Who would contend

-- where the group fails the call turns to a backup that needs the label
abbrev pub may_turn_to : Network → List LegRow → Group → NodeId → LinkId → ℕ → CallRow → Bool
may_turn_to t legs g n k x c = is_guarded_row legs c && (hits t legs g c && takes_at legs n k x c)

-- two different calls
abbrev pub of_two : Group → Group → LinkId → Bool → ℕ → CallRow → CallRow → List Contend
of_two g h k forward x a b = if a.call.0 == b.call.0 && a.ingress.0 == b.ingress.0 then [] else record {
  first = g;
  second = h;
  fibre = record { link = k; forward = forward };
  label = x;
  one = a.call;
  two = b.call;
} ∷ []

-- the node into which the link's fibre leads
abbrev pub end_of : LinkSpec → Bool → NodeId
end_of l forward = if forward then l.high else l.low

-- each two of them, on one label
abbrev pub on_label : Network → List CallRow → List LegRow → Group → Group → LinkSpec → Bool → ℕ → List Contend
on_label t calls legs g h l forward x =
    flat_map (λ a. flat_map (of_two g h l.id forward x a)
    (filter (may_turn_to t legs h (end_of l forward) l.id x) calls))
    (filter (may_turn_to t legs g (end_of l forward) l.id x) calls)

abbrev pub listed : Option ℕ → List ℕ
listed None = []
listed (Some x) = x ∷ []

-- the label, if there is one and it is of this link
abbrev pub link_label : LinkId → Option LinkId → Option ℕ → List ℕ
link_label k link label = if is_link link k then listed label else []

-- the labels that the leg takes of the fibre that comes in over this link at its node
abbrev pub row_labels : LinkId → LegRow → List ℕ
row_labels k r = link_label k r.in_link r.in_label ++ link_label k r.out_link r.back_in

-- the labels that rows show of this fibre, rising
abbrev pub labels_at : List LegRow → NodeId → LinkId → List ℕ
labels_at legs n k = in_order nat_lt (flat_map (λ r. if r.node.0 == n.0 then row_labels k r else []) legs)

-- on each label of a fibre, rising
abbrev pub contends_over_fibre : Network → List CallRow → List LegRow → Group → Group → LinkSpec → Bool → List Contend
contends_over_fibre t calls legs g h l forward =
    flat_map (on_label t calls legs g h l forward) (labels_at legs (end_of l forward) l.id)

-- over the fibre to the high end, and then over the other
abbrev pub over_link : Network → List CallRow → List LegRow → Group → Group → LinkSpec → List Contend
over_link t calls legs g h l = flat_map (contends_over_fibre t calls legs g h l) (true ∷ false ∷ [])

-- of these two groups
abbrev pub contends_between : Network → List CallRow → List LegRow → Group → Group → List Contend
contends_between t calls legs g h = flat_map (over_link t calls legs g h) t.links

-- of each two, the one before the other
abbrev pub all_between : Network → List CallRow → List LegRow → List Group → List Contend
all_between t calls legs [] = []
all_between t calls legs (g ∷ groups) =
    flat_map (contends_between t calls legs g) groups ++ all_between t calls legs groups

-- in order of the two groups, the link, its forward fibre first, the label, and the two calls
abbrev pub contends_of : Network → List CallRow → List LegRow → List Contend
contends_of t calls legs = all_between t calls legs (groups_of t)
