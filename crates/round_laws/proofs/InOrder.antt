-- A whole round in order is a sweep in order; and after a failure such rounds restore the calls that it hits.
use Rattle.std.proofs.{Common.{◌≡◌, ◌≤◌, ◌<◌, ◌⊎◌, inl, inr, nat_eq, ℕ, zero, suc, Bool, true, false, List, [], ◌∷◌, ◌++◌, refl, sym, ap, ◌∙◌, subst, arith, nat_lt}, lemmas.Bool.{or_right, cases_lt}, ByRecursion.All-append}
use Rattle.std.specs.{Prelude.◌||◌, List.AllByRecursion}
use Rattle.ason_base.specs.{declared.commands.Command.TheVariants.Fail, declared.commands.Disturb.Disturb, declared.commands.Event.Event, declared.commands.Group.Group, declared.network.NodeSpec.NodeSpec, Network.{IsTopology, Network, is_node_id}}
use Rattle.mesh_rules.specs.declared.events.MeshEvent.{MeshEvent}
use Rattle.mesh_laws.specs.{AloneLaw.Calm, HomeLaw.EveryRunStaysAtHome, InOrderLaw.{EveryHitCallIsRestoredInOrder, sweeps_in_order}, SoonLaw.PostsNothing, Sweeps.{AreParts, IsSweepInOrder}}
use Rattle.mesh_laws.proofs.{Numbered.rises, soon.InOrder.{Ascend, HasOrWill, ascend, has-then, in-above}}
use Rattle.world_rules.specs.{Images.{image, mesh_events}, WorldLaws.{EveryRunIsShown, IsWithoutMessages, QuietIsShown, TopologiesFindEach}, WorldRuns.{IsWorldRun, world_after}, Worlds.World}
use Rattle.world_merge.specs.{Histories.at, Merges.{assembled, events_of}}
use Rattle.round_rules.specs.{Doings.deeds_in, Records.{Record, world_of}, PossibleRecords.IsRecord}
use Rattle.round_laws.specs.{FleetLaw.{AllAcknowledged, IsPostOf}, Rings.RingsHaveAll, RoundsInOrder.{AreInOrderSince, IsRoundInOrder, IsOrderedTo, RestoresInOrder}, WholeRounds.{IsWholeRound, LeadsTo}}
use Rattle.round_laws.proofs.{Fleets.{AreRounds, GoesBy, at_home, both_given, goes, hits-by}, Mixed.{either-way, mixed, mixed-new, mixed-old}, Parts.{part-goes_on, part-is, part-lines, part-only}, Runs.{leads_on, run-then, then-leads}, Since.{IsLater, is_whole, later_post, later_round, later_self}}

-- what posts nothing before and after posts nothing
joined-only : (es fs gs : List MeshEvent) → es ++ fs ≡ gs → AllByRecursion PostsNothing es →
    AllByRecursion PostsNothing fs → AllByRecursion PostsNothing gs
joined-only es fs gs is one two = subst (AllByRecursion PostsNothing) is (All-append PostsNothing es fs one two)

module _ (t : Network) (valid : IsTopology t) (found : TopologiesFindEach) (shown : EveryRunIsShown)
    (home : EveryRunStaysAtHome) where
  module _ (lines : List Disturb) (old new : Record) (is_old : IsRecord t old) (is_new : IsRecord t new)
      (whole : IsWholeRound t lines old new) (have : RingsHaveAll t old) (order : IsRoundInOrder t old new) where
    -- where the nodes below x made their turns
    abbrev at_x : ℕ → World
    at_x x = world_of t (mixed old new x)

    -- from this world the parts of these nodes lead to the end of the round
    record HasParts (ns : List NodeSpec) (w : World) : Type 0 where
      events : List Event
      run : IsWorldRun t w events
      leads : world_after t w events ≡ world_of t new
      parts : AreParts t ns (image w) (mesh_events t w events)
      only : AllByRecursion PostsNothing (mesh_events t w events)

    world-is : (r s : Record) → ((m : ℕ) → r.doings m ≡ s.doings m) → world_of t r ≡ world_of t s
    world-is r s same = λ i. assembled t (λ m. deeds_in (same m i))

    -- all made their turns
    at-end : (x : ℕ) → ((m : ℕ) → is_node_id t.nodes (at m) ≡ true → HasOrWill x [] m) → at_x x ≡ world_of t new
    at-end x every = world-is (mixed old new x) new (λ m. go m (is_node_id t.nodes (at m)) refl)
      where
        made : (m : ℕ) → HasOrWill x [] m → (mixed old new x).doings m ≡ new.doings m
        made m (inl less) = mixed-new old new x m less
        made m (inr is) = absurd (cc is)

        go : (m : ℕ) (b : Bool) → is_node_id t.nodes (at m) ≡ b → (mixed old new x).doings m ≡ new.doings m
        go m true e = made m (every m e)
        go m false e =
            either-way (λ ds. ds ≡ new.doings m) (nat_lt m x) (new.doings m) (old.doings m) refl
            (sym (whole.round.others (at m) e))

    -- no node is between the last that made its turn and the next
    at-next : (x : ℕ) (n : NodeSpec) (ns : List NodeSpec) → Ascend x (n ∷ ns) →
        ((m : ℕ) → is_node_id t.nodes (at m) ≡ true → HasOrWill x (n ∷ ns) m) → at_x n.id.0 ≡ at_x x
    at-next x n ns rise every =
        world-is (mixed old new n.id.0) (mixed old new x)
        (λ m. go m (cases_lt m x) (cases_lt m n.id.0) (is_node_id t.nodes (at m)) refl)
      where
        never : (m : ℕ) → x ≤ m → m < n.id.0 → HasOrWill x (n ∷ ns) m → ⊥
        never m more less (inl had) = omega (arith, more, had)
        never m more less (inr is) =
            let h = in-above n.id.0 m (n ∷ ns) (omega arith, rise.1) is in omega (arith, h, less)

        go : (m : ℕ) → (m < x) ⊎ (x ≤ m) → (m < n.id.0) ⊎ (n.id.0 ≤ m) → (b : Bool) →
            is_node_id t.nodes (at m) ≡ b → (mixed old new n.id.0).doings m ≡ (mixed old new x).doings m
        go m (inl less) _ b e =
            let low = rise.0 in
            mixed-new old new n.id.0 m (omega (arith, less, low)) ∙ sym (mixed-new old new x m less)
        go m (inr more) (inr far) b e = mixed-old old new n.id.0 m far ∙ sym (mixed-old old new x m more)
        go m (inr more) (inl less) true e = absurd (never m more less (every m e))
        go m (inr more) (inl less) false e =
            mixed-new old new n.id.0 m less ∙ whole.round.others (at m) e ∙ sym (mixed-old old new x m more)

    parts : (ns : List NodeSpec) (x : ℕ) → Ascend x ns →
        ((m : ℕ) → is_node_id t.nodes (at m) ≡ true → HasOrWill x ns m) →
        ((m : ℕ) → is_node_id ns (at m) ≡ true → is_node_id t.nodes (at m) ≡ true) → (es : List Event) →
        LeadsTo t es (at_x x) → HasParts ns (at_x x)
    parts [] x rise every inside es leads =
        record { events = []; run = tt; leads = at-end x every; parts = tt; only = tt }
    parts (n ∷ ns) x rise every inside es leads =
        let k : ℕ = n.id.0 in
        let same = at-next x n ns rise every in
        let e : nat_eq k k ≡ true = grind arith in
        let known : is_node_id t.nodes (at k) ≡ true = inside k (ap (λ b. b || is_node_id ns (at k)) e) in
        let leads_k : LeadsTo t es (at_x k) = subst (LeadsTo t es) (sym same) leads in
        let fs : List Event = events_of (part-lines t valid lines old new is_old is_new whole have order k known) in
        let on = part-goes_on t valid lines old new is_old is_new whole have order k known in
        let there : LeadsTo t (es ++ fs) (at_x (suc k)) = leads_on t es fs (at_x k) (at_x (suc k)) leads_k on.run on.leads in
        let rest = parts ns (suc k) rise.1 (λ m is. has-then x n ns m rise.0 (every m is))
        (λ m is. inside m (or_right (nat_eq k m) (is_node_id ns (at m)) is)) (es ++ fs) there in
        let joined : mesh_events t (at_x k) fs ++ mesh_events t (at_x (suc k)) rest.events ≡
        mesh_events t (at_x k) (fs ++ rest.events) =
        both_given t valid found shown home (at_x k) (at_x (suc k)) fs rest.events on.leads in
        subst (HasParts (n ∷ ns)) same (record {
          events = fs ++ rest.events;
          run = run-then t (at_x k) (at_x (suc k)) fs rest.events on.run on.leads rest.run;
          leads = then-leads t (at_x k) (at_x (suc k)) (world_of t new) fs rest.events on.leads rest.leads;
          parts = (
            mesh_events t (at_x k) fs,
            mesh_events t (at_x (suc k)) rest.events,
            joined,
            part-is t valid lines old new is_old is_new whole have order k known es leads_k
                (at_home t valid found shown home es (at_x k) leads_k),
            subst (λ z. AreParts t ns z (mesh_events t (at_x (suc k)) rest.events))
                (sym (goes t valid found shown home es fs (at_x k) (at_x (suc k)) leads_k there)) rest.parts,
          );
          only = joined-only (mesh_events t (at_x k) fs) (mesh_events t (at_x (suc k)) rest.events)
              (mesh_events t (at_x k) (fs ++ rest.events)) joined
              (part-only t valid lines old new is_old is_new whole have order k known) rest.only;
        })

    -- at first none made its turn
    at-start : world_of t old ≡ at_x 0
    at-start = world-is old (mixed old new 0) (λ m. sym (mixed-old old new 0 m (omega arith)))

  -- A whole round in order is a sweep in order.
  pub in-order_sweeps : (lines : List Disturb) (old new : Record) (es : List Event) → IsRecord t old → IsRecord t new →
      LeadsTo t es (world_of t old) → IsWholeRound t lines old new → RingsHaveAll t old → IsRoundInOrder t old new →
      IsOrderedTo t old new
  in-order_sweeps lines old new es is_old is_new leads whole have order =
      let start_is = at-start lines old new is_old is_new whole have order in
      let all = parts lines old new is_old is_new whole have order t.nodes 0 (ascend 0 0 t.nodes (omega arith)
      (rises t valid)) (λ m is. inr is) (λ m is. is) es (subst (LeadsTo t es) start_is leads) in
      let back = subst (HasParts lines old new is_old is_new whole have order t.nodes) (sym start_is) all in
      record {
        events = back.events;
        run = back.run;
        leads = back.leads;
        sweep = back.parts;
        only = back.only;
      }

  -- rounds in order that are whole since a quiet record are whole
  ordered-whole : (es : List Event) (since : Record) → LeadsTo t es (world_of t since) → AllAcknowledged t since →
      (k : ℕ) (old new : Record) → IsLater t since old → AreInOrderSince t since k old new →
      AreRounds t valid found shown home (IsRoundInOrder t) k old new
  ordered-whole es since leads none zero old new later rounds = rounds
  ordered-whole es since leads none (suc k) old new later rounds =
      let next : IsLater t since rounds.1 = later_round t rounds.0 since old rounds.1 rounds.2.round later in (
        rounds.0,
        rounds.1,
        is_whole t rounds.0 es since old rounds.1 leads none later next rounds.2,
        rounds.3,
        rounds.4,
        ordered-whole es since leads none k rounds.1 new next rounds.5,
      )

  -- After a failure whole rounds in order restore the calls that it hits.
  pub hits-in_order : EveryHitCallIsRestoredInOrder → QuietIsShown → (es : List Event) (old posted new : Record)
      (g : Group) (k : ℕ) → IsRecord t old → LeadsTo t es (world_of t old) →
      IsWithoutMessages (world_of t old) → Calm (image (world_of t old)) → IsPostOf t (Fail g) old posted →
      IsRecord t posted → AreInOrderSince t old k posted new → RestoresInOrder t es g k old new
  hits-in_order law quiet es old posted new g k is leads none calm post is_posted rounds =
      let r = hits-by t valid found shown home (IsSweepInOrder t) (IsRoundInOrder t) once (sweeps_in_order t)
      (λ events run g struck k sweeps n m c. law t events valid run g struck k sweeps n m c) quiet es old posted new g k
      is leads none calm post is_posted
      (ordered-whole es old leads none.hops k posted new
      (later_post t (Fail g) old old posted post (later_self t old)) rounds) in
      record { later = r.0; leads = r.1; restored = r.2 }
    where
      once : (lines : List Disturb) (old mid : Record) (es : List Event) → IsRecord t old → IsRecord t mid →
          LeadsTo t es (world_of t old) → IsWholeRound t lines old mid → RingsHaveAll t old → IsRoundInOrder t old mid →
          GoesBy t valid found shown home (IsSweepInOrder t) old mid
      once lines old mid es is is_mid leads whole have order =
          let s = in-order_sweeps lines old mid es is is_mid leads whole have order in
          record { events = s.events; run = s.run; leads = s.leads; sweep = s.sweep; only = s.only }
