-- All nodes of a fleet have the same posts, so what may be posted at one may be posted at each.
use Rattle.std.proofs.Common.{◌≡◌, ℕ, List, [], ◌∷◌, filter, map, refl, sym, ap, ◌∙◌, subst}
use Rattle.std.specs.Prelude.{◌&&◌, IsTrue, not}
use Rattle.ason_base.specs.{declared.ids.NodeId.NodeId, declared.ids.CallNo.CallNo, declared.commands.Command.Command, declared.commands.Disturb.Disturb, declared.commands.Entry.Entry, declared.commands.Event.Event, declared.commands.Event.TheVariants.{Deliver, Noise, Tick, Desk, Post}, Network.Network}
use Rattle.mesh_rules.specs.Commands.{is_again, is_valid}
use Rattle.world_rules.specs.WorldRuns.{IsEnabled}
use Rattle.world_merge.specs.{Deeds.{Deed, Handled, Heard, Posted, Ticked, Took, alone}, Histories.at, Logs.{is_posted, posts_of}, Posts.HasSamePosts}
use Rattle.world_merge.proofs.Posting.{posts-tell-the-rest}
use Rattle.round_rules.specs.{Records.{Record, deeds_at, world_of}, States.StationState, Fleets.{AreStanding, Wires}}

-- the deed of a line that is a post
deed_as : ℕ → Event → Deed
deed_as s (Post c) = Posted s c
deed_as s (Deliver n u k) = Ticked s
deed_as s (Noise n u bytes) = Ticked s
deed_as s (Tick n) = Ticked s
deed_as s (Desk n) = Ticked s

deed_of : Entry → Deed
deed_of e = deed_as e.stamp e.event

deeds_back : (n : NodeId) (ds : List Deed) → map deed_of (posts_of n ds) ≡ filter is_posted ds
unfolding deed_of deed_as
deeds_back n [] = refl
deeds_back n (Ticked s ∷ ds) = deeds_back n ds
deeds_back n (Handled s ∷ ds) = deeds_back n ds
deeds_back n (Took s u k x ∷ ds) = deeds_back n ds
deeds_back n (Heard s u bytes ∷ ds) = deeds_back n ds
deeds_back n (Posted s c ∷ ds) = ap (λ es. Posted s c ∷ es) (deeds_back n ds)

module _ (t : Network) (lines : List Disturb) (r : Record) (w : Wires) (xs : List StationState)
    (all : AreStanding t lines r w xs) where
  -- two nodes have the same posts
  pub same-deeds : (n m : ℕ) → filter is_posted (deeds_at r n) ≡ filter is_posted (deeds_at r m)
  same-deeds n m =
      sym (deeds_back (at n) (deeds_at r n)) ∙ ap (map deed_of) (all.posts n ∙ sym (all.posts m))
      ∙ deeds_back (at m) (deeds_at r m)

  pub same-posts : (n m : ℕ) → HasSamePosts (alone t (at n) (deeds_at r n)) (alone t (at m) (deeds_at r m))
  same-posts n m = posts-tell-the-rest t (at n) (at m) (deeds_at r n) (deeds_at r m) (same-deeds n m)

  -- what may be posted may be posted where the node is alone
  pub enabled-alone : (c : Command) → IsEnabled t (world_of t r) (Post c) → (n : ℕ) →
      IsEnabled t (alone t (at n) (deeds_at r n)) (Post c)
  enabled-alone c on n =
      subst (λ (ns : List CallNo). IsTrue (is_valid t c && not (is_again ns c))) (same-posts 0 n).posted on
