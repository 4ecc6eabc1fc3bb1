-- The tables of a plan: the top, its nodes and its links, each with what it says or its first fault.
use Rattle.std.specs.{Prelude.{ℕ, ◌-◌, ◌++◌, ◌==◌, ◌&&◌, ◌||◌, nat_lt, nat_le, ℤ, pos, negsuc, Bool, true, false, not, List, [], ◌∷◌, length, map, filter_map, codes, Option, Some, None, Result, Ok, Err, slice_get, unwrap_or, is_some, is_none, if◌then◌else◌}, List.list_all}
use Rattle.ason_base.specs.{Network.{is_distinct, link_number, node_number}, declared.ids.NodeId.NodeId, declared.network.NodeSpec.NodeSpec, declared.network.LinkSpec.LinkSpec, declared.limits.TheConstants.{MOST_LABELS, MOST_LINKS, MOST_METRIC, MOST_NODES, MOST_SRLGS}}
use Rattle.toml.specs.{View.view, declared.value.Value.Value, Data.{Data, integer, boolean, array, table, Items, no_items, item, Members, no_members, member, get, as_str, as_integer, as_bool, as_table}}
use Rattle.plan_reader.specs.{declared.faults.PlanKind.PlanKind, declared.links.LinkNumbers.LinkNumbers, declared.limits.TheConstants.{MOST_LINES, MOST_NUMBER, MOST_WAIT}, declared.values.Shape.Shape, declared.values.Shape.TheVariants.{OfTop, OfNode, OfLink}, PlanTexts.node_named, Names.{same_text, is_name, has_name}}
use Rattle.plan_reader.specs.declared.faults.PlanKind.TheVariants as kinds

-- Values

-- what these values say
abbrev pub views : List Value → List Data
views values = map (λ v. view v) values

abbrev pub items_listed : Items → List Data
items_listed no_items = []
items_listed (item d ds) = d ∷ items_listed ds

-- the elements of an array; none of anything else
abbrev pub elements_of : Data → List Data
elements_of (array ds) = items_listed ds
elements_of d = []

abbrev pub elements : Option Data → List Data
elements None = []
elements (Some d) = elements_of d

abbrev pub elements_at : List ℕ → Data → List Data
elements_at key d = elements (get key d)

abbrev pub is_array : Data → Bool
is_array (array ds) = true
is_array d = false

-- what stands at the key passes the test, or nothing stands there
abbrev pub passes_test : (Data → Bool) → Option Data → Bool
passes_test test None = true
passes_test test (Some d) = test d

abbrev pub is_text : Data → Bool
is_text d = is_some (as_str d)

abbrev pub is_integer : Data → Bool
is_integer d = is_some (as_integer d)

abbrev pub is_boolean : Data → Bool
is_boolean d = is_some (as_bool d)

abbrev pub is_table : Data → Bool
is_table d = is_some (as_table d)

-- an array of such elements, or nothing
abbrev pub is_array_of : (Data → Bool) → Option Data → Bool
is_array_of test value = passes_test is_array value && list_all test (elements value)

-- the text of a string; empty of anything else
abbrev pub text_of : Data → List ℕ
text_of d = unwrap_or (as_str d) []

abbrev pub text_in : Option Data → List ℕ
text_in None = []
text_in (Some d) = text_of d

abbrev pub text_at : List ℕ → Data → List ℕ
text_at key d = text_in (get key d)

abbrev pub integer_in : ℕ → ℕ → ℤ → Option ℕ
integer_in low high (pos n) = if nat_le low n && nat_le n high then Some n else None
integer_in low high (negsuc n) = None

abbrev pub number_of : ℕ → ℕ → Data → Option ℕ
number_of low high (integer z) = integer_in low high z
number_of low high d = None

-- an integer from low to high
abbrev pub number_found_in : ℕ → ℕ → Option Data → Option ℕ
number_found_in low high None = None
number_found_in low high (Some d) = number_of low high d

abbrev pub number_for_key : List ℕ → ℕ → ℕ → Data → Option ℕ
number_for_key key low high d = number_found_in low high (get key d)

-- the same, with a default where nothing stands
abbrev pub number_or : ℕ → ℕ → ℕ → Option Data → Option ℕ
number_or default low high None = Some default
number_or default low high (Some d) = number_of low high d

abbrev pub flag_of : Data → Bool
flag_of (boolean b) = b
flag_of d = false

abbrev pub flag_in : Option Data → Bool
flag_in None = false
flag_in (Some d) = flag_of d

abbrev pub lacks : List ℕ → Data → Bool
lacks key d = is_none (get key d)

-- Keys

unfoldable pub is_top_key : List ℕ → Bool
is_top_key k =
    same_text k (codes "wait")
    || (same_text k (codes "script") || (same_text k (codes "node") || same_text k (codes "link")))

unfoldable pub is_node_key : List ℕ → Bool
is_node_key k = same_text k (codes "name") || (same_text k (codes "id") || same_text k (codes "convert"))

unfoldable pub is_link_key : List ℕ → Bool
is_link_key k =
    same_text k (codes "id")
    || (same_text k (codes "ends")
    || (same_text k (codes "labels") || (same_text k (codes "metric") || same_text k (codes "srlg"))))

unfoldable pub is_key : Shape → List ℕ → Bool
is_key OfTop k = is_top_key k
is_key OfNode k = is_node_key k
is_key OfLink k = is_link_key k

abbrev pub has_strange_member : Shape → Members → Bool
has_strange_member shape no_members = false
has_strange_member shape (member k d ms) = not (is_key shape k) || has_strange_member shape ms

-- the table has a key that such a table doesn't have
abbrev pub has_strange : Shape → Data → Bool
has_strange shape (table ms) = has_strange_member shape ms
has_strange shape d = false

-- The top

abbrev pub has_top_kinds : Data → Bool
has_top_kinds d =
    passes_test is_integer (get (codes "wait") d)
    && (is_array_of is_text (get (codes "script") d)
    && (is_array_of is_table (get (codes "node") d) && is_array_of is_table (get (codes "link") d)))

abbrev pub has_top_counts : Data → Bool
has_top_counts d =
    nat_le 1 (length (elements_at (codes "node") d))
    && (nat_le (length (elements_at (codes "node") d)) MOST_NODES
    && (nat_le (length (elements_at (codes "link") d)) MOST_LINKS
    && nat_le (length (elements_at (codes "script") d)) MOST_LINES))

-- the ticks that a call waits before it goes back: none where the number is out of reach
abbrev pub ticks_in : Data → Option ℕ
ticks_in d = number_or 0 0 MOST_WAIT (get (codes "wait") d)

abbrev pub ticks_of : Data → ℕ
ticks_of d = unwrap_or (ticks_in d) 0

abbrev pub top_value_kind : Data → Option PlanKind
top_value_kind d =
    if not (has_top_counts d) then Some kinds.Count
    else if is_none (ticks_in d) then Some kinds.Range
    else None

-- the first fault of the top itself
abbrev pub top_kind : Data → Option PlanKind
top_kind d =
    if has_strange OfTop d then Some kinds.Key
    else if lacks (codes "node") d then Some kinds.Missing
    else if not (has_top_kinds d) then Some kinds.Kind
    else top_value_kind d

-- Nodes

-- nodes, and their names in the same order
pub record NodeList : Type 0 where
  pub names : List (List ℕ)
  pub nodes : List NodeSpec

abbrev pub no_nodes : NodeList
no_nodes = record { names = []; nodes = [] }

abbrev pub with_named : NodeList → List ℕ → NodeSpec → NodeList
with_named before name node = record { names = before.names ++ name ∷ []; nodes = before.nodes ++ node ∷ [] }

-- the id of the last of these nodes, below which no further id is
abbrev pub last_node : List NodeSpec → ℕ
last_node nodes = node_number (slice_get nodes (length nodes - 1))

abbrev pub name_of : Data → List ℕ
name_of d = text_at (codes "name") d

-- the id of a node or a link
abbrev pub id_in : Data → Option ℕ
id_in d = number_for_key (codes "id") 1 MOST_NUMBER d

abbrev pub converts : Data → Bool
converts d = flag_in (get (codes "convert") d)

abbrev pub has_node_kinds : Data → Bool
has_node_kinds d =
    passes_test is_text (get (codes "name") d)
    && (passes_test is_integer (get (codes "id") d) && passes_test is_boolean (get (codes "convert") d))

abbrev pub lacks_node_key : Data → Bool
lacks_node_key d = lacks (codes "name") d || lacks (codes "id") d

abbrev pub with_node_of : NodeList → Data → Option ℕ → Result NodeList PlanKind
with_node_of before d None = Err kinds.Range
with_node_of before d (Some id) =
    if not (nat_lt (last_node before.nodes) id) then Err kinds.Order
    else if has_name before.names (name_of d) then Err kinds.Twice
    else Ok (with_named before (name_of d) (record { id = record { 0 = id }; convert = converts d }))

-- a node behind those before it, or its first fault
abbrev pub with_plan_node : NodeList → Data → Result NodeList PlanKind
with_plan_node before d =
    if has_strange OfNode d then Err kinds.Key
    else if lacks_node_key d then Err kinds.Missing
    else if not (has_node_kinds d) then Err kinds.Kind
    else if not (is_name (name_of d)) then Err kinds.Name
    else with_node_of before d (id_in d)

-- Links

abbrev pub last_link : List LinkSpec → ℕ
last_link links = link_number (slice_get links (length links - 1))

abbrev pub end_ids : Option NodeId → Option NodeId → Option (NodeId × NodeId)
end_ids (Some a) (Some b) = if nat_lt a.0 b.0 then Some (a, b) else if nat_lt b.0 a.0 then Some (b, a) else None
end_ids (Some a) None = None
end_ids None b = None

abbrev pub end_name : Data → ℕ → List ℕ
end_name d k = text_in (slice_get (elements_at (codes "ends") d) k)

-- the two ends of a link, the lesser first: none where one is unknown or they are the same
abbrev pub link_ends_of : NodeList → Data → Option (NodeId × NodeId)
link_ends_of known d =
    end_ids (node_named known.names known.nodes (end_name d 0)) (node_named known.names known.nodes (end_name d 1))

abbrev pub labels_in : Data → Option ℕ
labels_in d = number_for_key (codes "labels") 1 MOST_LABELS d

abbrev pub metric_in : Data → Option ℕ
metric_in d = number_or 1 1 MOST_METRIC (get (codes "metric") d)

abbrev pub srlg_in : Data → Option ℕ
srlg_in d = number_of 0 MOST_NUMBER d

-- the SRLGs of a link: none where one is out of reach
abbrev pub srlgs_in : Data → Option (List ℕ)
srlgs_in d =
    if list_all (λ s. is_some (srlg_in s)) (elements_at (codes "srlg") d)
    then Some (filter_map srlg_in (elements_at (codes "srlg") d))
    else None

abbrev pub has_link_kinds : Data → Bool
has_link_kinds d =
    passes_test is_integer (get (codes "id") d)
    && (is_array_of is_text (get (codes "ends") d)
    && (passes_test is_integer (get (codes "labels") d)
    && (passes_test is_integer (get (codes "metric") d) && is_array_of is_integer (get (codes "srlg") d))))

abbrev pub has_link_counts : Data → Bool
has_link_counts d =
    length (elements_at (codes "ends") d) == 2 && nat_le (length (elements_at (codes "srlg") d)) MOST_SRLGS

abbrev pub lacks_link_key : Data → Bool
lacks_link_key d = lacks (codes "id") d || (lacks (codes "ends") d || lacks (codes "labels") d)

abbrev pub all_numbers : Option ℕ → Option ℕ → Option ℕ → Option (List ℕ) → Option LinkNumbers
all_numbers None labels metric srlgs = None
all_numbers (Some id) None metric srlgs = None
all_numbers (Some id) (Some labels) None srlgs = None
all_numbers (Some id) (Some labels) (Some metric) None = None
all_numbers (Some id) (Some labels) (Some metric) (Some srlgs) =
    Some (record { id = id; labels = labels; metric = metric; srlgs = srlgs })

-- what a link has besides its ends: none where one is out of reach
abbrev pub link_numbers : Data → Option LinkNumbers
link_numbers d = all_numbers (id_in d) (labels_in d) (metric_in d) (srlgs_in d)

abbrev pub link_with : LinkNumbers → NodeId × NodeId → LinkSpec
link_with n ends = record {
  id = record { 0 = n.id };
  low = ends.0;
  high = ends.1;
  labels = n.labels;
  metric = n.metric;
  srlgs = n.srlgs;
}

abbrev pub link_between : LinkNumbers → Option (NodeId × NodeId) → Result LinkSpec PlanKind
link_between n None = Err kinds.Ends
link_between n (Some ends) =
    if not (is_distinct n.srlgs) then Err kinds.Twice else Ok (link_with n ends)

abbrev pub link_of_numbers : NodeList → ℕ → Data → Option LinkNumbers → Result LinkSpec PlanKind
link_of_numbers known last d None = Err kinds.Range
link_of_numbers known last d (Some n) =
    if not (nat_lt last n.id) then Err kinds.Order else link_between n (link_ends_of known d)

-- a link between these nodes after one with this id, or its first fault
abbrev pub plan_link : NodeList → ℕ → Data → Result LinkSpec PlanKind
plan_link known last d =
    if has_strange OfLink d then Err kinds.Key
    else if lacks_link_key d then Err kinds.Missing
    else if not (has_link_kinds d) then Err kinds.Kind
    else if not (has_link_counts d) then Err kinds.Count
    else link_of_numbers known last d (link_numbers d)

abbrev pub link_put_behind : List LinkSpec → Result LinkSpec PlanKind → Result (List LinkSpec) PlanKind
link_put_behind before (Ok link) = Ok (before ++ link ∷ [])
link_put_behind before (Err kind) = Err kind

-- a link behind those before it, or its first fault
abbrev pub with_plan_link : NodeList → List LinkSpec → Data → Result (List LinkSpec) PlanKind
with_plan_link known before d = link_put_behind before (plan_link known (last_link before) d)
