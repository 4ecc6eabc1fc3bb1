-- A fleet stands for a record that goes on from another, where nothing was posted.
use Rattle.std.proofs.Common.{◌≡◌, ◌≤◌, ◌^◌, ◌++◌, ℕ, List, filter, length, map, sym, ap, ◌∙◌, subst, append-nil}
use Rattle.ason_base.specs.{declared.commands.Entry.Entry, declared.commands.Disturb.Disturb, Network.Network}
use Rattle.world_merge.specs.{Deeds.Deed, Histories.at, Logs.{is_posted, line_of}, Posts.PostsTellTheRest}
use Rattle.round_rules.specs.{States.StationState, Doings.deeds_in, Records.{Record, deeds_at, posts_in}, Fleets.{AreStanding, HasGrown, Wires, AllBegun}, Gaps.PostsStillFollow}
use Rattle.round_rules.proofs.NoPosts.{posts-more}
use Rattle.fleet.specs.Standing.{FleetState, StandsFor}

posts_kept : (before after : Record) → HasGrown before after 0 →
    filter is_posted (deeds_at after 0) ≡ filter is_posted (deeds_at before 0)
posts_kept before after grown =
    ap (λ ds. filter is_posted (deeds_in ds)) grown.all ∙ posts-more (before.doings 0) grown.added
    ∙ ap (λ (ds : List Deed). filter is_posted (deeds_at before 0) ++ ds) grown.no_post
    ∙ append-nil (filter is_posted (deeds_at before 0))

pub posts-same : (before after : Record) → ((m : ℕ) → HasGrown before after m) → posts_in after ≡ posts_in before
posts-same before after grown = ap (map (line_of (at 0))) (posts_kept before after (grown 0))

pub few-posts : (t : Network) (lines : List Disturb) (f : FleetState) (before after : Record) →
    StandsFor t lines f before → ((m : ℕ) → HasGrown before after m) → length (posts_in after) ≤ 2 ^ 32
few-posts t lines f before after s grown =
    subst (λ (ps : List Entry). length ps ≤ 2 ^ 32) (s.posts ∙ sym (posts-same before after grown)) s.few

pub follows : (t : Network) (lines : List Disturb) (f : FleetState) (before after : Record) (w : Wires)
    (zs : List StationState) → PostsTellTheRest → PostsStillFollow → StandsFor t lines f before →
    ((m : ℕ) → HasGrown before after m) → AreStanding t lines after w zs → AllBegun t w →
    StandsFor t lines (record f { stations = zs }) after
follows t lines f before after w zs rest still s grown stands begun = record {
  seats = s.seats;
  wires = w;
  stations = stands;
  begun = begun;
  posts = s.posts ∙ sym (posts-same before after grown);
  follow = still t before after grown s.follow;
  few = s.few;
  network = s.network;
  failed = s.failed
      ∙ sym (rest t (at 0) (at 0) (deeds_at after 0) (deeds_at before 0) (posts_kept before after (grown 0))).failed;
}
