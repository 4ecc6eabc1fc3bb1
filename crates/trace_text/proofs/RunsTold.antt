-- The entries of a run can be told.
use Rattle.std.proofs.{Common.{◌≡◌, ◌∙◌, ◌&&◌, Bool, true, cond, List, [], ◌∷◌, ◌++◌, filter, Option, Some, None, refl, ap, sym, subst}, lemmas.Bool.and_parts}
use Rattle.std.specs.{List.AllByRecursion, Prelude.is_some}
use mathlib.Core.List.{IsPrefix}
use Rattle.ason_base.specs.{Network.{Network, is_node_id}, declared.commands.Command.Command, declared.commands.Entry.Entry, declared.commands.Event.Event, declared.commands.Event.TheVariants.{Deliver, Noise, Tick, Desk, Post}, declared.ids.NodeId.NodeId}
use Rattle.plan_reader.specs.{FoundNames.FindsByName, declared.lines.Line.Line, declared.plan.Plan.Plan}
use Rattle.plan_reader.specs.declared.lines.Line.TheVariants as said
use Rattle.plan_reader.proofs.PostablePlans.{names_found}
use Rattle.round_rules.specs.{RecordLaws.RecordsAreRuns, Records.deeds_at}
use Rattle.script_rules.specs.Tables.{IsTable}
use Rattle.world_merge.specs.{Merges.{IsRunOf, events_of}, Orders.is_post}
use Rattle.world_merge.specs.Orders as orders
use Rattle.world_rules.specs.{WorldRuns.{IsEnabled, IsWorldRun, is_world_channel, may_act, world_step}, Images.image, Worlds.{World, frame_at, world_start}}
use Rattle.trace_text.specs.{Complete.{EveryRunIsChecked, command_in, commands_of, posted_in}, EntryForms.next_post, LinesRead.place_of, RoundTrip.{CanAllBeTold, HasItsName, IsNodeNamed, Says}, Widths.{EntryFits, EventFits}, declared.reading.Place.Place}
use Rattle.trace_text.proofs.{MergesRise.{AreEntriesRising, IsEventOf, IsOwnEvent, merge_own, merge_rises}, NodesNamed.node_named, PostsTold.command_lacks, TracesTold.trace_read}
use Rattle.world_core.proofs.Nowhere.{node_of}
use Rattle.round_laws.proofs.Standing.{sender-is}

-- Nodes

-- the nodes of an event are those of the network
abbrev AreKnown : Network → Event → Type 0
AreKnown t (Deliver d u k) = (is_node_id t.nodes d ≡ true) × (is_node_id t.nodes u ≡ true)
AreKnown t (Noise d u bytes) = (is_node_id t.nodes d ≡ true) × (is_node_id t.nodes u ≡ true)
AreKnown t (Tick n) = is_node_id t.nodes n ≡ true
AreKnown t (Desk n) = is_node_id t.nodes n ≡ true
AreKnown t (Post c) = Unit {0}

enabled_known : (t : Network) (w : World) (e : Event) → IsEnabled t w e → AreKnown t e
enabled_known t w (Deliver d u k) on =
    let there = and_parts (may_act t w d && is_world_channel t u d) (is_some (frame_at w u d k)) on in
    let (acts, joined) = and_parts (may_act t w d) (is_world_channel t u d) there.0 in
    (node_of t w d acts, sender-is t u d joined)
enabled_known t w (Noise d u bytes) on =
    let (acts, joined) = and_parts (may_act t w d) (is_world_channel t u d) on.0 in
    (node_of t w d acts, sender-is t u d joined)
enabled_known t w (Tick n) on = node_of t w n on
enabled_known t w (Desk n) on = node_of t w n (and_parts (may_act t w n) _ on).0
enabled_known t w (Post c) on = tt

-- Posts

-- the first command that lines post is that of the next post
next_posted : (lines : List Line) (c : Command) (cs : List Command) → commands_of lines ≡ c ∷ cs →
    (left : List Line) × (next_post lines ≡ Some (c, left)) × (commands_of left ≡ cs)
next_posted [] c cs e = absurd (cc (e))
next_posted (said.Post d ∷ lines) c cs e =
    let first : d ≡ c = cc (e) in
    let others : commands_of lines ≡ cs = cc (e) in
    (lines, (λ i. Some (first i, lines)), others)
next_posted (said.Disturb d ∷ lines) c cs e = next_posted lines c cs e
next_posted (said.Noise from to bytes ∷ lines) c cs e = next_posted lines c cs e
next_posted (said.Settle r ∷ lines) c cs e = next_posted lines c cs e
next_posted (said.Wait n ∷ lines) c cs e = next_posted lines c cs e
next_posted (said.Show ∷ lines) c cs e = next_posted lines c cs e

not_posted : (n : NodeId) (event : Event) → IsEventOf (Some n) event → command_in event ≡ []
not_posted n (Deliver to from k) is = refl
not_posted n (Noise to from bytes) is = refl
not_posted n (Tick m) is = refl
not_posted n (Desk m) is = refl
not_posted n (Post c) is = absurd is

-- of entries that are events of their nodes, posts alone post
posted_same : (es : List Entry) → AllByRecursion IsOwnEvent es → posted_in es ≡ posted_in (filter is_post es)
posted_same [] own = refl
posted_same (e ∷ es) own = here e.node refl (posted_same es own.1)
  where
    if_post : Bool → List Command
    if_post b = posted_in (cond b (e ∷ filter is_post es) (filter is_post es))

    here : (o : Option NodeId) → e.node ≡ o → posted_in es ≡ posted_in (filter is_post es) →
        posted_in (e ∷ es) ≡ posted_in (filter is_post (e ∷ es))
    here None is rest =
        ap (λ cs. command_in e.event ++ cs) rest ∙ sym (ap if_post (ap orders.is_no_node is))
    here (Some n) is rest =
        ap (λ cs. cs ++ posted_in es)
        (not_posted n e.event (subst (λ (o : Option NodeId). IsEventOf o e.event) is own.0))
        ∙ (rest ∙ sym (ap if_post (ap orders.is_no_node is)))

-- Entries

module _ (p : Plan) (finds : FindsByName p) where
  named_as : (m n : NodeId) → m ≡ n → is_node_id p.topology.nodes m ≡ true → IsNodeNamed p n
  named_as m n is known =
      node_named p n finds (subst (λ (k : NodeId). is_node_id p.topology.nodes k ≡ true) is known)

  -- an event that is enabled can be told, and the posts of those behind it are left
  one_told : (lines : List Line) (node : Option NodeId) (event : Event) (cs : List Command) →
      IsEventOf node event → AreKnown p.topology event → EventFits event →
      IsPrefix (command_in event ++ cs) (commands_of lines) →
      (left : List Line) × HasItsName p node × Says p lines node event left × IsPrefix cs (commands_of left)
  one_told lines (Some n) (Deliver to from k) cs is known fits posts =
      (lines, named_as to n is known.0, (is, node_named p from finds known.1, fits, refl), posts)
  one_told lines (Some n) (Noise to from bytes) cs is known fits posts =
      (lines, named_as to n is known.0, (is, node_named p from finds known.1, fits, refl), posts)
  one_told lines (Some n) (Tick m) cs is known fits posts = (lines, named_as m n is known, (is, refl), posts)
  one_told lines (Some n) (Desk m) cs is known fits posts = (lines, named_as m n is known, (is, refl), posts)
  one_told lines (Some n) (Post c) cs is known fits posts = absurd is
  one_told lines None (Deliver to from k) cs is known fits posts = absurd is
  one_told lines None (Noise to from bytes) cs is known fits posts = absurd is
  one_told lines None (Tick m) cs is known fits posts = absurd is
  one_told lines None (Desk m) cs is known fits posts = absurd is
  one_told lines None (Post c) cs is known fits posts =
      let (left, next, others) = next_posted lines c (cs ++ posts.0) (sym posts.1) in
      (left, tt, (next, command_lacks p finds c), (posts.0, sym others))

  -- entries that rise, of a run whose posts are the next ones, can be told
  all_told : (lines : List Line) (last : Option Place) (w : World) (es : List Entry) →
      IsWorldRun p.topology w (events_of es) → AllByRecursion IsOwnEvent es → AllByRecursion EntryFits es →
      AreEntriesRising last es →
      IsPrefix (posted_in es) (commands_of lines) → CanAllBeTold p lines last es
  all_told lines last w [] run own fit rising posts = tt
  all_told lines last w (e ∷ es) run own fit rising posts =
      let known : AreKnown p.topology e.event = enabled_known p.topology w e.event run.0 in
      let (left, named, says, others) =
      one_told lines e.node e.event (posted_in es) own.0 known fit.0.event posts in (
        left,
        record { stamp = fit.0.stamp; node = named; says = says },
        rising.0,
        all_told left (Some (place_of e)) (world_step p.topology w e.event) es run.1 own.1 fit.1 rising.1 others,
      )

-- The trace of a record is that of a run.
pub run_checked : RecordsAreRuns → EveryRunIsChecked
run_checked runs p plan_bytes r es rows made fits = record {
  version = refl;
  plan_bytes = plan_bytes;
  entries = es;
  trace = trace_read p plan_bytes es rows made.spelled fits.plan fits.count
      (all_told p (names_found true plan_bytes p made.spelled) p.lines None (world_start p.topology) es run.run own
      fits.entries (merge_rises r es made.possible made.merge) posts);
  run = run.run;
  table = subst (λ (w : World). IsTable p.topology (image w) rows) (sym run.leads) made.table;
  events = refl;
  left_out = refl;
}
  where
    run : IsRunOf p.topology (deeds_at r) es
    run = runs p.topology r es made.possible made.merge

    own : AllByRecursion IsOwnEvent es
    own = merge_own r es made.merge

    posts : IsPrefix (posted_in es) (commands_of p.lines)
    posts =
        subst (λ (cs : List Command). IsPrefix cs (commands_of p.lines))
        (sym (posted_same es own ∙ ap posted_in made.merge.all_posts)) made.posts
