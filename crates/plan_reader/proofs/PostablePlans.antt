-- The lines of a plan can be posted one after the other, and its nodes and calls have their names.
use Rattle.std.proofs.{Common.{◌≡◌, ◌<◌, All, codes, inl, inr, ℕ, Bool, true, false, ◌++◌, cond, not, nat_lt, length, List, [], ◌∷◌, Ok, Err, refl, sym, ap, subst}, lemmas.Bool.{and_parts, ltb-true}, lemmas.List.Elements.{All-cons, All-nil}, lemmas.List.Sums.fold-append}
use Rattle.std.specs.{Prelude.{Option, Some, None, Result}, List.list_all}
use Rattle.toml.specs.Data.{Data, table}
use Rattle.ason_base.specs.{Network.{IsTopology, Network}, declared.ids.CallNo.CallNo, declared.network.LinkSpec.LinkSpec}
use Rattle.mesh_rules.specs.Commands.{is_searchable}
use Rattle.mesh_rules.proofs.Topologies.{topology_searchable}
use Rattle.plan_reader.specs.{declared.lines.Line.Line, declared.plan.Plan.Plan, declared.script.Script.Script, FoundNames.{EveryNameIsFound, EveryNetworkIsATopology, FindsByName}, PlanScript.{AddsLine, AddsWords, IsRead, IsReadWith, line_bytes, calls_with_line, script_line, no_script, line_put_behind}, Entries.AndThen, PlanTables.{NodeList, elements_at, has_strange, has_top_counts, has_top_kinds, lacks, text_of, ticks_of, top_kind}, declared.values.Shape.TheVariants.OfTop, PlanTexts.words_of, declared.faults.PlanFault.PlanFault, Plans.{ArePostable, HasNames, IsPlanOf, IsPlanOfParts, IsPlanOver, IsPostable, IsScriptOf, IsSpelled, UnlessFault, calls_after_line, calls_after_lines, plan_links, network_of, plan_nodes, plan_over, plan_with}, declared.faults.PlanKind.PlanKind}
use Rattle.plan_reader.specs.declared.faults.PlanKind.TheVariants as kinds
use Rattle.plan_reader.proofs.{Entries.{kept_as, then_next}, SoundLinks.is_topology, SoundNodes.nodes_fit, FittingCalls.AreFitting, FoundNames.none_found, PostableLines.line_stands}

-- Scripts

pub record ScriptFits (t : Network) (script : Script) : Type 0 where
  pub postable : ArePostable t [] script.lines
  pub fits : AreFitting t script.calls (calls_after_lines [] script.lines)

postable_more :
    (t : Network) (before : List CallNo) (lines : List Line) (line : Line) → ArePostable t before lines
    → IsPostable t (calls_after_lines before lines) line → ArePostable t before (lines ++ line ∷ [])
postable_more t before [] line are is = (is, tt)
postable_more t before (l ∷ lines) line are is =
    (are.0, postable_more t (calls_after_line before l) lines line are.1 is)

line_kept :
    (w : Bool) (t : Network) (names : List (List ℕ)) (before after : Script) (ws : List (List ℕ)) →
    is_searchable t ≡ true
    → AddsWords w t names before ws (Ok after) → ScriptFits t before → ScriptFits t after
line_kept w t names before after ws searchable h fit = go (script_line w t names before.calls ws) refl h.0 h.1 h.2
  where
    asked :
        (line : Line) (o : Option (List ℕ)) (r : Result Line PlanKind) → IsReadWith o line r
        → line_put_behind before ws r ≡ Ok after
        → r ≡ Ok line
    asked line None r is k = is
    asked line (Some bytes) r (inl x) k = x.1
    asked line (Some bytes) r (inr x) k = absurd (cc (ap (line_put_behind before ws) x.2, k))

    go :
        (says : Result Line PlanKind) → script_line w t names before.calls ws ≡ says → (r : Result Line PlanKind)
        → IsRead says r → Ok after ≡ line_put_behind before ws r → ScriptFits t after
    go (Ok line) e r is k =
        let same_line : r ≡ Ok line = asked line (line_bytes line) r is (sym k) in
        let was = subst (λ (q : Result Line PlanKind). IsReadWith (line_bytes line) line q) same_line is in
        let stands =
        line_stands w t names before.calls (calls_after_lines [] before.lines) ws line searchable was fit.fits e in
        let script : Script = record {
          calls = calls_with_line before.calls ws line;
          lines = before.lines ++ line ∷ [];
        } in
        let same : script ≡ after = cc (k, ap (line_put_behind before ws) same_line) in
        let longer = fold-append calls_after_line [] before.lines (line ∷ []) in
        subst (ScriptFits t) same
        (record {
          postable = postable_more t [] before.lines line fit.postable stands.0;
          fits = subst (AreFitting t script.calls) (sym longer) stands.1;
        })
    go (Err fault) e r is k = absurd (cc (ap (line_put_behind before ws) is, k))

script_fits :
    (w : Bool) (t : Network) (names : List (List ℕ)) (ds : List Data) (script : Script) → is_searchable t ≡ true
    → IsScriptOf w t names ds (Ok script) → ScriptFits t script
script_fits w t names ds script searchable h =
    kept_as (ScriptFits t) _ (AddsLine w t names)
    (λ before after d. line_kept w t names before after (words_of (text_of d)) searchable) 1 no_script ds script
    h nothing
  where
    nothing : ScriptFits t no_script
    nothing = record { postable = tt; fits = record { below = refl; known = refl; counted = refl; found = none_found } }

-- Plans

below_all : (n : ℕ) (before : List CallNo) → list_all (λ m. nat_lt m.0 n) before ≡ true → All (λ m. m.0 < n) before
below_all n [] h = All-nil (λ m. m.0 < n)
below_all n (m ∷ before) h =
    let parts = and_parts (nat_lt m.0 n) (list_all (λ m. nat_lt m.0 n) before) h in
    All-cons (λ m. m.0 < n) m before (ltb-true m.0 n parts.0) (below_all n before parts.1)

-- a plan's parts without fault
record HasParts (w : Bool) (d : Data) (p : Plan) : Type 0 where
  pub known : NodeList
  pub links : List LinkSpec
  pub script : Script
  pub counts : has_top_counts d ≡ true
  pub nodes_read : plan_nodes (elements_at (codes "node") d) ≡ Ok known
  pub links_read : plan_links known (elements_at (codes "link") d) ≡ Ok links
  pub script_read :
      IsScriptOf w (network_of (ticks_of d) known links) known.names (elements_at (codes "script") d) (Ok script)
  pub plan : plan_with (ticks_of d) known links script ≡ p

counts_pass : (d : Data) → top_kind d ≡ None → has_top_counts d ≡ true
counts_pass d h =
    go (has_strange OfTop d) (lacks (codes "node") d) (not (has_top_kinds d)) (has_top_counts d) _ h
  where
    go :
        (a b c e : Bool) (rest : Option PlanKind)
        → cond a (Some kinds.Key)
        (cond b (Some kinds.Missing) (cond c (Some kinds.Kind) (cond (not e) (Some kinds.Count) rest))) ≡ None
        → e ≡ true
    go true b c e rest k = absurd (cc (k))
    go false true c e rest k = absurd (cc (k))
    go false false true e rest k = absurd (cc (k))
    go false false false true rest k = refl
    go false false false false rest k = absurd (cc (k))

parts_of_plan : (w : Bool) (d : Data) (p : Plan) → IsPlanOf w d (Ok p) → HasParts w d p
parts_of_plan w d p h = go (top_kind d) refl h
  where
    Reads : NodeList → List LinkSpec → Result Script PlanFault → Type 0
    Reads known links script =
        IsScriptOf w (network_of (ticks_of d) known links) known.names (elements_at (codes "script") d) script

    over :
        (known : NodeList) (links : List LinkSpec) (script : Result Script PlanFault) → Reads known links script
        → Ok p ≡ plan_over d known links script
        → (s : Script) × Reads known links (Ok s) × (plan_with (ticks_of d) known links s ≡ p)
    over known links (Ok s) is e = (s, is, cc (e))
    over known links (Err f) is e = absurd (cc (e))

    go : (o : Option PlanKind) → top_kind d ≡ o → UnlessFault o (IsPlanOfParts w d) (Ok p) → HasParts w d p
    go None top k =
        let nodes =
        then_next (plan_nodes (elements_at (codes "node") d))
        (λ known. AndThen (plan_links known (elements_at (codes "link") d)) (IsPlanOver w d known)) p k in
        let known = nodes.0 in
        let links = then_next (plan_links known (elements_at (codes "link") d)) (IsPlanOver w d known) p nodes.2 in
        let script = over known links.0 links.2.0 links.2.1 links.2.2 in
        record {
          known = known;
          links = links.0;
          script = script.0;
          counts = counts_pass d top;
          nodes_read = nodes.1;
          links_read = links.1;
          script_read = script.1;
          plan = script.2;
        }
    go (Some fault) top k = absurd (cc (k))

topology_of_parts :
    (w : Bool) (d : Data) (p : Plan) (parts : HasParts w d p)
    → IsTopology (network_of (ticks_of d) parts.known parts.links)
topology_of_parts w d p parts =
    is_topology d (ticks_of d) parts.known parts.links parts.counts parts.nodes_read parts.links_read

script_of_parts :
    (w : Bool) (d : Data) (p : Plan) (parts : HasParts w d p)
    → ScriptFits (network_of (ticks_of d) parts.known parts.links) parts.script
script_of_parts w d p parts =
    let t : Network = network_of (ticks_of d) parts.known parts.links in
    script_fits w t parts.known.names (elements_at (codes "script") d) parts.script
    (topology_searchable t (topology_of_parts w d p parts)) parts.script_read

pub plan_is_postable : (w : Bool) (d : Data) (p : Plan) → IsPlanOf w d (Ok p) → ArePostable p.topology [] p.lines
plan_is_postable w d p h =
    let parts = parts_of_plan w d p h in
    let fit = script_of_parts w d p parts in
    subst (λ (q : Plan). ArePostable q.topology [] q.lines) parts.plan fit.postable

pub plan_is_named : (w : Bool) (d : Data) (p : Plan) → IsPlanOf w d (Ok p) → HasNames p
plan_is_named w d p h =
    let parts = parts_of_plan w d p h in
    let fit = (script_of_parts w d p parts).fits in
    subst HasNames parts.plan
    (record {
      nodes = (nodes_fit (elements_at (codes "node") d) parts.known parts.nodes_read).even;
      calls = fit.counted;
      numbers = below_all (length parts.script.calls.names) (calls_after_lines [] parts.script.lines) fit.below;
    })

plan_finds : (w : Bool) (d : Data) (p : Plan) → IsPlanOf w d (Ok p) → FindsByName p
plan_finds w d p h =
    let parts = parts_of_plan w d p h in
    let nodes = nodes_fit (elements_at (codes "node") d) parts.known parts.nodes_read in
    subst FindsByName parts.plan
    (record { even = nodes.even; nodes = nodes.found; calls = (script_of_parts w d p parts).fits.found })

plan_is_valid : (w : Bool) (d : Data) (p : Plan) → IsPlanOf w d (Ok p) → IsTopology p.topology
plan_is_valid w d p h =
    let parts = parts_of_plan w d p h in
    subst (λ (q : Plan). IsTopology q.topology) parts.plan (topology_of_parts w d p parts)

-- Plans that bytes spell

-- what holds of the plan of each table
spelled_has : (Has : Plan → Type 0) → ((w : Bool) (d : Data) (p : Plan) → IsPlanOf w d (Ok p) → Has p) → (w : Bool)
    (bs : List ℕ) (p : Plan) → IsSpelled w bs (Ok p) → Has p
spelled_has Has each w bs p (inl spelled) = each w (table spelled.0) p spelled.3
spelled_has Has each w bs p (inr fault) = absurd (cc (fault.1))

pub network_valid : EveryNetworkIsATopology
network_valid = spelled_has (λ p. IsTopology p.topology) plan_is_valid

pub names_found : EveryNameIsFound
names_found = spelled_has FindsByName plan_finds
