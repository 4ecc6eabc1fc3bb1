-- The nodes and links that were read make a topology.
use Rattle.std.proofs.{Common.{◌≡◌, ℕ, ◌<◌, ◌≤◌, Bool, true, false, ◌&&◌, ◌==◌, cond, not, nat_le, nat_lt, arith, length, length-append, ◌+◌, List, [], ◌∷◌, ◌++◌, Ok, refl, ap, subst, suc}, lemmas.Bool.{and_parts, not-false}}
use Rattle.std.specs.{Prelude.{Option, Some, None, Result, Err, slice_get, pos, negsuc, codes, filter_map, ℤ, is_some}, List.{cons_option, list_all}}
use Rattle.plan_reader.specs.{declared.limits.TheConstants.MOST_LINES, PlanTables.{NodeList, all_numbers, elements_at, end_ids, end_name, link_ends_of, has_link_counts, has_link_kinds, has_strange, has_top_counts, id_in, integer_in, labels_in, lacks_link_key, last_link, link_between, plan_link, link_of_numbers, link_with, metric_in, number_found_in, number_of, number_or, link_numbers, link_put_behind, srlg_in, srlgs_in, with_plan_link}, PlanTexts.id_at_place, Names.place_of, Plans.{plan_links, network_of, plan_nodes}, declared.faults.EntryError.EntryError, declared.faults.PlanKind.PlanKind, Entries.TellsKind, declared.links.LinkNumbers.LinkNumbers, declared.values.Shape.TheVariants.OfLink}
use Rattle.ason_base.specs.{declared.limits.TheConstants.{MOST_LABELS, MOST_LINKS, MOST_METRIC, MOST_NODES, MOST_SRLGS}, Network.{IsTopology, is_distinct, is_link, is_link_here, is_node_id, link_number}, declared.ids.NodeId.NodeId, declared.network.LinkSpec.LinkSpec, declared.network.NodeSpec.NodeSpec}
use Rattle.toml.specs.Data.{Data, string, integer, float, boolean, datetime, array, table, get}
use Rattle.plan_reader.proofs.{Entries.{as_many, kept, passed}, KnownNodes.place_is_known, Rising.{RiseByNumber, at_each, get_before, rise_more}, SoundNodes.{as_many_nodes, nodes_fit}}
use Rattle.ason_base.proofs.Places.{get-last}

-- Numbers

integer_is_within :
    (low high : ℕ) (z : ℤ) (n : ℕ) → integer_in low high z ≡ Some n → (nat_le low n && nat_le n high) ≡ true
integer_is_within low high (pos m) n h = go (nat_le low m && nat_le m high) refl h
  where
    go :
        (b : Bool) → (nat_le low m && nat_le m high) ≡ b → cond b (Some m) None ≡ Some n
        → (nat_le low n && nat_le n high) ≡ true
    go true e k = let same : m ≡ n = cc (k) in subst (λ x. (nat_le low x && nat_le x high) ≡ true) same e
    go false e k = absurd (cc (k))
integer_is_within low high (negsuc m) n h = absurd (cc (h))

number_is_within :
    (low high : ℕ) (d : Data) (n : ℕ) → number_of low high d ≡ Some n → (nat_le low n && nat_le n high) ≡ true
number_is_within low high (integer z) n h = integer_is_within low high z n h
number_is_within low high (string s) n h = absurd (cc (h))
number_is_within low high (float s) n h = absurd (cc (h))
number_is_within low high (boolean s) n h = absurd (cc (h))
number_is_within low high (datetime s) n h = absurd (cc (h))
number_is_within low high (array s) n h = absurd (cc (h))
number_is_within low high (table s) n h = absurd (cc (h))

labels_are_within : (o : Option Data) (n : ℕ) → number_found_in 1 MOST_LABELS o ≡ Some n →
    (nat_le 1 n && nat_le n MOST_LABELS) ≡ true
labels_are_within None n h = absurd (cc (h))
labels_are_within (Some d) n h = number_is_within 1 MOST_LABELS d n h

metric_is_within :
    (o : Option Data) (n : ℕ) → number_or 1 1 MOST_METRIC o ≡ Some n → (nat_le 1 n && nat_le n MOST_METRIC) ≡ true
metric_is_within None n h =
    let same : 1 ≡ n = cc (h) in
    subst (λ x. (nat_le 1 x && nat_le x MOST_METRIC) ≡ true) same refl
metric_is_within (Some d) n h = number_is_within 1 MOST_METRIC d n h

fewer : (xs : List Data) → length (filter_map srlg_in xs) ≤ length xs
fewer [] = omega arith
fewer (d ∷ ds) = go (srlg_in d) (fewer ds)
  where
    go :
        (o : Option ℕ) → length (filter_map srlg_in ds) ≤ length ds
        → length (cons_option o (filter_map srlg_in ds)) ≤ suc (length ds)
    go None few = omega (arith, few)
    go (Some n) few = omega (arith, few)

srlgs_are_few :
    (d : Data) (ss : List ℕ) → has_link_counts d ≡ true → srlgs_in d ≡ Some ss → nat_le (length ss) MOST_SRLGS ≡ true
srlgs_are_few d ss counts h = go (list_all (λ s. is_some (srlg_in s)) srlgs) h
  where
    srlgs : List Data
    srlgs = elements_at (codes "srlg") d

    few : nat_le (length srlgs) MOST_SRLGS ≡ true
    few = (and_parts (length (elements_at (codes "ends") d) == 2) (nat_le (length srlgs) MOST_SRLGS) counts).1

    go : (b : Bool) → cond b (Some (filter_map srlg_in srlgs)) None ≡ Some ss → nat_le (length ss) MOST_SRLGS ≡ true
    go true k =
        let same : filter_map srlg_in srlgs ≡ ss = cc (k) in
        let less = fewer srlgs in
        let all : nat_le (length (filter_map srlg_in srlgs)) MOST_SRLGS ≡ true = grind (arith, few, less) in
        subst (λ (l : List ℕ). nat_le (length l) MOST_SRLGS ≡ true) same all
    go false k = absurd (cc (k))

all_there :
    (i l m : Option ℕ) (s : Option (List ℕ)) (n : LinkNumbers) → all_numbers i l m s ≡ Some n
    → (l ≡ Some n.labels) × (m ≡ Some n.metric) × (s ≡ Some n.srlgs)
all_there None l m s n h = absurd (cc (h))
all_there (Some i) None m s n h = absurd (cc (h))
all_there (Some i) (Some l) None s n h = absurd (cc (h))
all_there (Some i) (Some l) (Some m) None n h = absurd (cc (h))
all_there (Some i) (Some l) (Some m) (Some s) n h =
    let same : record { id = i; labels = l; metric = m; srlgs = s } ≡ n = cc (h) in (
      ap (λ (x : LinkNumbers). Some x.labels) same,
      ap (λ (x : LinkNumbers). Some x.metric) same,
      ap (λ (x : LinkNumbers). Some x.srlgs) same,
    )

-- Ends

abbrev pair_of : Bool → Bool → NodeId → NodeId → Option (NodeId × NodeId)
pair_of x y a b = cond x (Some (a, b)) (cond y (Some (b, a)) None)

abbrev are_ends : List NodeSpec → NodeId × NodeId → Bool
are_ends nodes e = nat_lt (e.0).0 (e.1).0 && (is_node_id nodes e.0 && is_node_id nodes e.1)

ends_are_known :
    (nodes : List NodeSpec) (i j : Option ℕ) (a b : Option NodeId) (ends : NodeId × NodeId) → id_at_place nodes i ≡ a
    → id_at_place nodes j ≡ b → end_ids a b ≡ Some ends → are_ends nodes ends ≡ true
ends_are_known nodes i j None b ends e f h = absurd (cc (h))
ends_are_known nodes i j (Some a) None ends e f h = absurd (cc (h))
ends_are_known nodes i j (Some a) (Some b) ends e f h = go (nat_lt a.0 b.0) (nat_lt b.0 a.0) refl refl h
  where
    known_a : is_node_id nodes a ≡ true
    known_a = place_is_known nodes i a e

    known_b : is_node_id nodes b ≡ true
    known_b = place_is_known nodes j b f

    go :
        (x y : Bool) → nat_lt a.0 b.0 ≡ x → nat_lt b.0 a.0 ≡ y → pair_of x y a b ≡ Some ends
        → are_ends nodes ends ≡ true
    go true y p q k =
        let same : (a, b) ≡ ends = cc (k) in
        subst (λ (x : NodeId × NodeId). are_ends nodes x ≡ true) same (rw (p, known_a, known_b) refl)
    go false true p q k =
        let same : (b, a) ≡ ends = cc (k) in
        subst (λ (x : NodeId × NodeId). are_ends nodes x ≡ true) same (rw (q, known_a, known_b) refl)
    go false false p q k = absurd (cc (k))

-- Links

link_passes :
    (a b c d e f g h i : Bool) → (a && (b && c)) ≡ true → (d && e) ≡ true → (f && g) ≡ true → h ≡ true → i ≡ true
    → (a && (b && c) && (d && e) && (f && g) && (h && i)) ≡ true
link_passes a b c d e f g h i p q r s t =
    let x = and_parts a (b && c) p in
    let y = and_parts b c x.1 in
    let z = and_parts d e q in
    let w = and_parts f g r in
    rw (x.0, y.0, y.1, z.0, z.1, w.0, w.1, s, t) refl

-- a link that was read is above the one before, and may stand between these nodes
abbrev IsSound : NodeList → ℕ → LinkSpec → Type 0
IsSound known last l = (nat_lt last l.id.0 ≡ true) × (is_link known.nodes l ≡ true)

link_is_sound :
    (known : NodeList) (last : ℕ) (d : Data) (l : LinkSpec) → plan_link known last d ≡ Ok l → IsSound known last l
link_is_sound known last d l h = go (link_numbers d) refl (counted.1)
  where
    counted : (not (has_link_counts d) ≡ false) × (link_of_numbers known last d (link_numbers d) ≡ Ok l)
    counted =
        let keys = passed (has_strange OfLink d) _ _ _ h in
        let there = passed (lacks_link_key d) _ _ _ keys.1 in
        let kinds = passed (not (has_link_kinds d)) _ _ _ there.1 in
        passed (not (has_link_counts d)) _ _ _ kinds.1

    between :
        (n : LinkNumbers) → link_numbers d ≡ Some n → nat_lt last n.id ≡ true → (o : Option (NodeId × NodeId))
        → link_ends_of known d ≡ o → link_between n o ≡ Ok l → IsSound known last l
    between n read above None e k = absurd (cc (k))
    between n read above (Some ends) e k =
        let apart = passed (not (is_distinct n.srlgs)) _ _ _ k in
        let same : link_with n ends ≡ l = cc (apart.1) in
        let there = all_there (id_in d) (labels_in d) (metric_in d) (srlgs_in d) n read in
        let nodes = known.nodes in
        let first = place_of known.names (end_name d 0) in
        let second = place_of known.names (end_name d 1) in
        let valid =
        link_passes (nat_lt (ends.0).0 (ends.1).0) (is_node_id nodes ends.0) (is_node_id nodes ends.1)
        (nat_le 1 n.labels) (nat_le n.labels MOST_LABELS) (nat_le 1 n.metric) (nat_le n.metric MOST_METRIC)
        (nat_le (length n.srlgs) MOST_SRLGS) (is_distinct n.srlgs)
        (ends_are_known nodes first second _ _ ends refl refl e)
        (labels_are_within (get (codes "labels") d) n.labels there.0)
        (metric_is_within (get (codes "metric") d) n.metric there.1)
        (srlgs_are_few d n.srlgs (not-false _ counted.0) there.2)
        (not-false _ apart.0) in
        subst (IsSound known last) same (above, valid)

    go :
        (o : Option LinkNumbers) → link_numbers d ≡ o → link_of_numbers known last d o ≡ Ok l → IsSound known last l
    go None e k = absurd (cc (k))
    go (Some n) e k =
        let above = passed (not (nat_lt last n.id)) _ _ _ k in
        between n e (not-false _ above.0) (link_ends_of known d) refl above.1

pub record LinksFit (known : NodeList) (links : List LinkSpec) : Type 0 where
  pub rise : RiseByNumber link_number links
  pub sound : (k : ℕ) → k < length links → is_link_here known.nodes (slice_get links k) ≡ true

link_fits :
    (known : NodeList) (before : List LinkSpec) (l : LinkSpec) → IsSound known (last_link before) l
    → LinksFit known before → LinksFit known (before ++ l ∷ [])
link_fits known before l is fit = record {
  rise = rise_more link_number before l refl fit.rise is.0;
  sound =
      at_each (λ k. is_link_here known.nodes (slice_get (before ++ l ∷ []) k) ≡ true) before l
      (λ k below. rw (get_before before l k below) (fit.sound k below)) (rw (get-last before l) is.1);
}

-- a link that was read stands behind those before it
link_read :
    (known : NodeList) (before after : List LinkSpec) (d : Data) → with_plan_link known before d ≡ Ok after
    → (l : LinkSpec) × (before ++ l ∷ [] ≡ after) × IsSound known (last_link before) l
link_read known before after d h = go (plan_link known (last_link before) d) refl h
  where
    go :
        (r : Result LinkSpec PlanKind) → plan_link known (last_link before) d ≡ r → link_put_behind before r ≡ Ok after
        → (l : LinkSpec) × (before ++ l ∷ [] ≡ after) × IsSound known (last_link before) l
    go (Ok l) e k = (l, cc (k), link_is_sound known (last_link before) d l e)
    go (Err fault) e k = absurd (cc (k))

link_kept :
    (known : NodeList) (before after : List LinkSpec) (d : Data) → with_plan_link known before d ≡ Ok after
    → LinksFit known before → LinksFit known after
link_kept known before after d h fit =
    let read = link_read known before after d h in
    subst (LinksFit known) read.1 (link_fits known before read.0 read.2 fit)

one_link :
    (known : NodeList) (before after : List LinkSpec) (d : Data) → with_plan_link known before d ≡ Ok after
    → length after ≡ length before + 1
one_link known before after d h =
    let read = link_read known before after d h in
    subst (λ (ls : List LinkSpec). length ls ≡ length before + 1) read.1 (length-append before (read.0 ∷ []))

links_fit :
    (known : NodeList) (ds : List Data) (links : List LinkSpec) → plan_links known ds ≡ Ok links → LinksFit known links
links_fit known ds links h = kept (LinksFit known) _ (with_plan_link known) (link_kept known) 1 [] ds links h nothing
  where
    nothing : LinksFit known []
    nothing = record { rise = λ k below. absurd (omega arith); sound = λ k below. absurd (omega arith) }

as_many_links :
    (known : NodeList) (ds : List Data) (links : List LinkSpec) → plan_links known ds ≡ Ok links
    → length links ≡ length ds
as_many_links known ds links h =
    let all = as_many (λ (ls : List LinkSpec). length ls) _ (with_plan_link known) (one_link known) 1 [] ds links h in
    omega (arith, all)

-- One link more in the program's loop

pub link_put :
    (known : NodeList) (before after : List LinkSpec) (last : ℕ) (d : Data) (l : LinkSpec) → last ≡ last_link before
    → plan_link known last d ≡ Ok l → after ≡ before ++ l ∷ [] → with_plan_link known before d ≡ Ok after
link_put known before after last d l is read grown =
    let here : plan_link known (last_link before) d ≡ Ok l = subst (λ n. plan_link known n d ≡ Ok l) is read in
    rw (here, grown) refl

pub link_faulty :
    (known : NodeList) (before : List LinkSpec) (last : ℕ) (d : Data) (e : EntryError) → last ≡ last_link before
    → TellsKind e (plan_link known last d) → TellsKind e (with_plan_link known before d)
link_faulty known before last d e is tells = λ k same.
    let here : plan_link known (last_link before) d ≡ Err k =
    subst (λ n. plan_link known n d ≡ Err k) is (tells k same) in
    rw here refl

-- Networks

-- a table without fault says a topology
pub is_topology :
    (d : Data) (wait : ℕ) (known : NodeList) (links : List LinkSpec) → has_top_counts d ≡ true
    → plan_nodes (elements_at (codes "node") d) ≡ Ok known → plan_links known (elements_at (codes "link") d) ≡ Ok links
    → IsTopology (network_of wait known links)
is_topology d wait known links counts nodes_read links_read = record {
  count = counted;
  nodes = λ k below. (nodes_fit (elements_at (codes "node") d) known nodes_read).rise k below;
  links = λ k below. both _ _ (fit.rise k below) (fit.sound k below);
}
  where
    fit : LinksFit known links
    fit = links_fit known (elements_at (codes "link") d) links links_read

    both : (a b : Bool) → a ≡ true → b ≡ true → (a && b) ≡ true
    both a b p q = rw (p, q) refl

    nodes : ℕ
    nodes = length (elements_at (codes "node") d)

    lines : ℕ
    lines = length (elements_at (codes "script") d)

    counted :
        (nat_le 1 (length known.nodes) &&
        (nat_le (length known.nodes) MOST_NODES && nat_le (length links) MOST_LINKS)) ≡ true
    counted =
        let link_count = length (elements_at (codes "link") d) in
        let a = and_parts (nat_le 1 nodes)
        (nat_le nodes MOST_NODES && (nat_le link_count MOST_LINKS && nat_le lines MOST_LINES)) counts in
        let b = and_parts (nat_le nodes MOST_NODES) (nat_le link_count MOST_LINKS && nat_le lines MOST_LINES) a.1 in
        let c = and_parts (nat_le link_count MOST_LINKS) (nat_le lines MOST_LINES) b.1 in
        let many_nodes : length known.nodes ≡ nodes = as_many_nodes (elements_at (codes "node") d) known nodes_read in
        let many_links : length links ≡ link_count =
        as_many_links known (elements_at (codes "link") d) links links_read in
        rw (many_nodes, many_links, a.0, b.0, c.0) refl
