-- In a round in order each node has its part: all that waits there as the part begins is taken and handled.
use Rattle.std.proofs.{Common.{◌≡◌, ◌≤◌, ◌<◌, ◌⊎◌, inl, inr, ◌+◌, ℕ, suc, Bool, true, false, cond, nat_eq, nat_lt, List, [], ◌++◌, length, refl, sym, ap, ◌∙◌, subst, append-nil, arith}, lemmas.Bool.cases_lt}
use Rattle.std.specs.List.{AllByRecursion}
use Rattle.ason_base.specs.{declared.commands.Disturb.Disturb, declared.commands.Entry.Entry, declared.commands.Event.Event, declared.messages.Msg.Msg, Network.{IsTopology, Network, is_node_id}}
use Rattle.mesh_rules.specs.declared.events.MeshEvent.{MeshEvent}
use Rattle.mesh_laws.specs.{HomeLaw.StaysAtHome, SoonLaw.PostsNothing, Sweeps.{IsPartOf, handled_at, taken_count}}
use Rattle.world_rules.specs.{Images.{image, mesh_events}, WorldRuns.is_world_channel, Worlds.World}
use Rattle.world_rules.proofs.Reached.{AreReached}
use Rattle.world_merge.specs.{Deeds.{Deed, alone}, Histories.at, Logs.RisesAbove, Merges.{events_of, part}, Picking.merged_of}
use Rattle.round_rules.specs.{Doings.{Doing, deeds_in}, Records.{Record, world_of}, Rings.{standing}, PossibleRecords.IsRecord}
use Rattle.round_rules.proofs.RoundParts.{round-part}
use Rattle.round_laws.specs.{GoingOn.GoesOn, Rings.{IsWhole, RingsHaveAll, channel_of, climb, contents_of, handed_up_at, last_sent_to}, RoundsInOrder.IsRoundInOrder, WholeRounds.{IsWholeRound, LeadsTo}}
use Rattle.round_laws.proofs.{Counting.{IsNoPost, desk_count, handled_in, line_posts, lines_desks, of_parts, part_desks, run_handles, run_posts, run_takes}, GoingOn.merges-go_on, Keeping.{ring-kept, whole-rounds_hand_up}, Mixed.{either-way, mixed, mixed-new, mixed-old, mixed-record}, Quiet.reached-by, Sorting.{AreDeedsMerged, NonePosted, lists, merges}, Sweeping.{doings_added, added_is, added-rises, all-added, flows, none-added, none-posted, turn_handles, way_length}}

-- what is added where the node n makes its turn
grows : {X : Type 0} (n m : ℕ) (new old more : List X) → new ≡ old ++ more →
    cond (nat_lt m (suc n)) new old ≡ cond (nat_lt m n) new old ++ cond (nat_eq m n) more []
grows n m new old more all = go (cases_lt m n) (cases_lt n m)
  where
    go : (m < n) ⊎ (n ≤ m) → (n < m) ⊎ (m ≤ n) →
        cond (nat_lt m (suc n)) new old ≡ cond (nat_lt m n) new old ++ cond (nat_eq m n) more []
    go (inl less) _ =
        let a : nat_lt m (suc n) ≡ true = grind (arith, less) in
        let b : nat_lt m n ≡ true = grind (arith, less) in
        let c : nat_eq m n ≡ false = grind (arith, less) in
        rw (a, b, c) (sym (append-nil new))
    go (inr most) (inl more_than) =
        let a : nat_lt m (suc n) ≡ false = grind (arith, more_than) in
        let b : nat_lt m n ≡ false = grind (arith, most) in
        let c : nat_eq m n ≡ false = grind (arith, more_than) in
        rw (a, b, c) (sym (append-nil old))
    go (inr most) (inr least) =
        let a : nat_lt m (suc n) ≡ true = grind (arith, least) in
        let b : nat_lt m n ≡ false = grind (arith, most) in
        let c : nat_eq m n ≡ true = grind (arith, most, least) in
        rw (a, b, c) all

module _ (t : Network) (valid : IsTopology t) (lines : List Disturb) (old new : Record) (is_old : IsRecord t old)
    (is_new : IsRecord t new) (whole : IsWholeRound t lines old new) (have : RingsHaveAll t old)
    (order : IsRoundInOrder t old new) (n : ℕ) (known : is_node_id t.nodes (at n) ≡ true) where
  abbrev before : Record
  before = mixed old new n

  abbrev after : Record
  after = mixed old new (suc n)

  abbrev w : World
  w = world_of t (mixed old new n)

  -- What the part adds

  abbrev part-added : ℕ → List Doing
  part-added m = cond (nat_eq m n) (doings_added old new m) []

  is-added : (m : ℕ) → after.doings m ≡ before.doings m ++ part-added m
  is-added m = grows n m (new.doings m) (old.doings m) (doings_added old new m)
      (all-added t lines old new whole.round m)

  abbrev deeds : ℕ → List Deed
  deeds m = deeds_in (part-added m)

  none : (m : ℕ) → NonePosted (deeds m)
  none m =
      either-way (λ ds. NonePosted (deeds_in ds)) (nat_eq m n) (doings_added old new m) []
      (none-posted t lines old new whole.round m) tt

  rises : (m : ℕ) → (s : ℕ) × RisesAbove s (deeds m)
  rises m =
      either-way (λ ds. (s : ℕ) × RisesAbove s (deeds_in ds)) (nat_eq m n) (doings_added old new m) []
      (added-rises t lines old new whole.round is_new m) (0, tt)

  empty : (m : ℕ) → is_node_id t.nodes (at m) ≡ false → deeds m ≡ []
  empty m e =
      either-way (λ ds. deeds_in ds ≡ []) (nat_eq m n) (doings_added old new m) []
      (none-added t lines old new whole.round m e)
      refl

  abbrev pub part-lines : List Entry
  part-lines = merged_of (lists deeds t.nodes)

  merged : AreDeedsMerged deeds part-lines
  merged = merges t valid deeds none rises empty

  -- It leads on.
  pub part-goes_on : GoesOn t (mixed old new n) (mixed old new (suc n)) part-lines
  part-goes_on =
      merges-go_on t before after part-added part-lines
      (mixed-record t lines old new is_old is_new whole.round order n)
      (mixed-record t lines old new is_old is_new whole.round order (suc n)) is-added
      (record { ascends = merged.ascends; parts = merged.parts })

  -- And posts nothing.
  pub part-only : AllByRecursion PostsNothing (mesh_events t (world_of t (mixed old new n)) (events_of part-lines))
  part-only =
      run_posts t w part-lines (of_parts (λ (e : Entry). IsNoPost e.event) part-lines (λ m.
      subst (AllByRecursion (λ (e : Entry). IsNoPost e.event)) (sym (merged.parts m))
      (line_posts (at m) (deeds m) (none m))))

  -- What was sent to the node

  sent-is : (r s : Record) (u : ℕ) → r.doings u ≡ s.doings u →
      last_sent_to t r (at u) (at n) ≡ last_sent_to t s (at u) (at n)
  sent-is r s u same = ap (λ ds. ((alone t (at u) (deeds_in ds)).ends u n).hop.sent) same

  up-is : (u : ℕ) → handed_up_at t (mixed old new (suc n)) (at n) (at u) ≡ handed_up_at t new (at n) (at u)
  up-is u =
      ap (λ ds. ((alone t (at n) (deeds_in ds)).ends n u).hop.handed_up) (mixed-new old new (suc n) n (omega arith))

  -- by an earlier node: all of it is taken
  from-earlier : (u : ℕ) → is_world_channel t (at u) (at n) ≡ true → u < n →
      last_sent_to t new (at u) (at n) ≤ handed_up_at t new (at n) (at u)
  from-earlier u on less =
      let left : standing t new (at u) (at n) ≡ [] = order.earlier (at u) (at n) on less in
      let kept : IsWhole t new (at u) (at n) =
      ring-kept t lines old new is_new whole have (at u) (at n) on in
      subst (λ ks. last_sent_to t new (at u) (at n) ≤
      climb (handed_up_at t new (at n) (at u)) (contents_of (channel_of t new (at u) (at n)) ks)) left kept.has

  hands : (u : ℕ) → is_world_channel t (at u) (at n) ≡ true →
      last_sent_to t (mixed old new n) (at u) (at n) ≤ handed_up_at t (mixed old new (suc n)) (at n) (at u)
  hands u on = go (cases_lt u n)
    where
      go : (u < n) ⊎ (n ≤ u) →
          last_sent_to t (mixed old new n) (at u) (at n) ≤ handed_up_at t (mixed old new (suc n)) (at n) (at u)
      go (inl less) =
          let sent = sent-is before new u (mixed-new old new n u less) in
          let up = up-is u in let all = from-earlier u on less in omega (arith, sent, up, all)
      go (inr most) =
          let sent = sent-is before old u (mixed-old old new n u most) in
          let up = up-is u in
          let all = whole-rounds_hand_up t lines old new is_new whole have (at u) (at n) on in
          omega (arith, sent, up, all)

  -- All that waits at the node is taken and handled.
  pub part-is : (es : List Event) → LeadsTo t es (world_of t (mixed old new n)) →
      StaysAtHome t (image (world_of t (mixed old new n))) →
      IsPartOf (image (world_of t (mixed old new n))) n
      (mesh_events t (world_of t (mixed old new n)) (events_of part-lines))
  part-is es leads home = record { mail = λ u. mail u (is_world_channel t (at u) (at n)) refl; desk = desk }
    where
      all : List MeshEvent
      all = mesh_events t w (events_of part-lines)

      reached : AreReached w
      reached = reached-by t es w leads

      mail : (u : ℕ) (b : Bool) → is_world_channel t (at u) (at n) ≡ b →
          length ((image w).mail u n) ≤ taken_count u n all
      mail u false e =
          subst (λ (ms : List Msg). length ms ≤ taken_count u n all) (sym (home.mail (at u) (at n) e)) (omega arith)
      mail u true e =
          let other : nat_eq u n ≡ false = grind (arith, e) in
          let way : length ((image w).mail u n) + handed_up_at t before (at n) (at u)
          ≡ last_sent_to t before (at u) (at n) =
          way_length (w.ends u n) (w.ends n u) (flows w reached u n other) in
          let takes : handed_up_at t after (at n) (at u) ≤ handed_up_at t before (at n) (at u) + taken_count u n all =
          subst (λ (v : World). (v.ends n u).hop.handed_up ≤ handed_up_at t before (at n) (at u) + taken_count u n all)
          part-goes_on.leads (run_takes t w (events_of part-lines) n u) in
          chain _ _ _ _ _ way (hands u e) takes
        where
          chain : (a b c d e : ℕ) → a + b ≡ c → c ≤ d → d ≤ b + e → a ≤ e
          chain a b c d e p q r = omega (arith, p, q, r)

      desk : length ((image w).desks n) ≤ handled_at n all
      desk =
          let r = round-part t lines old new (at n) (whole.round.nodes (at n) known) in
          let was : length ((image w).desks n) ≡ length ((alone t (at n) (deeds_in (old.doings n))).desks n) =
          ap (λ ds. length ((alone t (at n) (deeds_in ds)).desks n)) (mixed-old old new n n (omega arith)) in
          let one : length ((alone t (at n) (deeds_in (old.doings n))).desks n) ≤ handled_in (deeds_in r.added) =
          turn_handles t lines (at n) true (old.doings n) r.added r.turn in
          let own : part-added n ≡ doings_added old new n =
          (let e : nat_eq n n ≡ true = grind arith in ap (λ b. cond b (doings_added old new n) []) e) in
          let same : handled_in (deeds_in r.added) ≡ desk_count n (events_of (part n part-lines)) =
          ap (λ ds. handled_in (deeds_in ds)) (sym (added_is old new n r.added r.all) ∙ sym own)
          ∙ lines_desks n (deeds n) ∙ ap (λ xs. desk_count n (events_of xs)) (sym (merged.parts n)) in
          chain _ _ _ _ _ _ was one same (part_desks n part-lines) (run_handles t w (events_of part-lines) n)
        where
          chain : (a b c d e f : ℕ) → a ≡ b → b ≤ c → c ≡ d → d ≤ e → e ≤ f → a ≤ f
          chain a b c d e f p q r s v = omega (arith, p, q, r, s, v)
