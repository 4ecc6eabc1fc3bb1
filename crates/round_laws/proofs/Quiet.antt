-- Where nothing is unacknowledged, nothing is missing in the rings; and a post leaves that so.
use Rattle.std.proofs.Common.{◌≡◌, ◌≤◌, ℕ, false, nat_eq, List, [], ◌∷◌, length, refl, sym, ap, ◌∙◌, subst, arith}
use Rattle.ason_base.specs.{declared.commands.Command.Command, declared.commands.Command.TheVariants.{Setup, Release, Protect, Retry, Revert, Fail, Repair}, declared.commands.Entry.Entry, declared.commands.Event.Event, declared.commands.Event.TheVariants.Post, declared.messages.Msg.Msg, Network.Network}
use Rattle.hop_reliable.specs.Schedules.{BothWays, HopEnd, IsSettled}
use Rattle.hop_reliable.proofs.{Flow.Flow, Schedule.settled_is_delivered}
use Rattle.world_rules.specs.{Worlds.{World, world_start}, WorldRuns.{world_after, world_posted, world_step}}
use Rattle.world_rules.proofs.Reached.{AreReached, are-reached-run, are-reached-start}
use Rattle.world_merge.specs.{Deeds.Posted, Histories.at, Logs.line_of, Merges.events_of}
use Rattle.round_rules.specs.{Doings.Did, Records.{Record, world_of}, Rings.standing, PossibleRecords.IsRecord}
use Rattle.round_laws.specs.{FleetLaw.{AllAcknowledged, IsPostOf, QuietHasAll}, GoingOn.GoesOn, Rings.{channel_of, contents_of, handed_up_at, last_sent_to}, WholeRounds.LeadsTo}
use Rattle.round_laws.proofs.{Climbing.climbs_all, GoingOn.merges-go_on, Sweeping.{flows, take_length}}

-- a run leads to it
pub reached-by : (t : Network) (es : List Event) (w : World) → LeadsTo t es w → AreReached w
reached-by t es w leads = subst AreReached leads.leads (are-reached-run t es (world_start t) leads.run (are-reached-start t))

-- all that was sent was handed up
pub all_up : (w : World) → AreReached w → (u d : ℕ) → nat_eq u d ≡ false → (w.ends u d).hop.unacked ≡ [] →
    (w.ends u d).hop.sent ≤ (w.ends d u).hop.handed_up
all_up w r u d other none =
    let f : Flow (w.ends u d) (w.ends d u) = flows w r u d other in
    let reached = r.apart u d other in
    let settled : IsSettled (w.ends u d) (w.ends d u) =
    (subst (BothWays IsSettled) reached.leads (settled_is_delivered reached.schedule)).0 in
    let up : length (w.ends d u).up ≡ (w.ends d u).hop.handed_up =
    ap (λ (ms : List Msg). length ms) f.prefix
    ∙ take_length (w.ends d u).hop.handed_up (w.ends u d).given f.within in
    let all : length (w.ends d u).up ≡ length (w.ends u d).given = ap (λ (ms : List Msg). length ms) (settled none) in
    let count = f.count in
    omega (arith, up, all, count)

-- Where nothing is unacknowledged, rings have all.
pub quiet-has_all : QuietHasAll
quiet-has_all t r es is leads none u d on =
    let other : nat_eq u.0 d.0 ≡ false = grind (arith, on) in
    let up : last_sent_to t r u d ≤ handed_up_at t r d u =
    all_up (world_of t r) (reached-by t es (world_of t r) leads) u.0 d.0 other (none u.0 d.0) in
    record {
      has = then _ _ _ up (climbs_all (handed_up_at t r d u) (contents_of (channel_of t r u d) (standing t r u d)));
      got = (is.only u d on).got;
      dropped = (is.only u d on).dropped;
    }
  where
    then : (a b c : ℕ) → a ≤ b → b ≤ c → a ≤ c
    then a b c f g = omega (arith, f, g)

-- Posts

-- a post as a run of one event
pub post_goes_on : (t : Network) (c : Command) (old new : Record) → IsRecord t old → IsRecord t new →
    IsPostOf t c old new → (m : List Entry) × (events_of m ≡ Post c ∷ []) × GoesOn t old new m
post_goes_on t c old new is_old is_new is = (
  m,
  refl,
  merges-go_on t old new (λ n. Did (Posted is.stamp c) ∷ []) m is_old is_new is.doings
      (record { ascends = (omega arith, tt); parts = λ n. refl }),
)
  where
    m : List Entry
    m = line_of (at 0) (Posted is.stamp c) ∷ []

same_ends : (t : Network) (w : World) (c : Command) (u d : ℕ) → (world_posted t w c).ends u d ≡ w.ends u d
same_ends t w (Setup n from to protected both via backup) u d = refl
same_ends t w (Release n from) u d = refl
same_ends t w (Protect n from) u d = refl
same_ends t w (Retry n from) u d = refl
same_ends t w (Revert n from) u d = refl
same_ends t w (Fail g) u d = refl
same_ends t w (Repair g) u d = refl

-- a post leaves that so
pub acknowledged_on : (t : Network) (c : Command) (old new : Record) → IsRecord t old → IsRecord t new →
    IsPostOf t c old new → AllAcknowledged t old → AllAcknowledged t new
acknowledged_on t c old new is_old is_new is none u d =
    let p = post_goes_on t c old new is_old is_new is in
    let leads : world_step t (world_of t old) (Post c) ≡ world_of t new =
    ap (world_after t (world_of t old)) (sym p.1) ∙ p.2.leads in
    ap (λ (w : World). (w.ends u d).hop.unacked) (sym leads)
    ∙ ap (λ (e : HopEnd). e.hop.unacked) (same_ends t (world_of t old) c u d) ∙ none u d
