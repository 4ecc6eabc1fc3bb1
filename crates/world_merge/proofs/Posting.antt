-- What is posted and what has failed is told by the posts alone.
use Rattle.std.proofs.Common.{List, [], ◌∷◌, ◌++◌, filter, refl, sym, ap, ◌∙◌, subst}
use Rattle.std.specs.Prelude.{Some}
use Rattle.ason_base.specs.{declared.ids.NodeId.NodeId, declared.commands.Command.Command, declared.commands.Command.TheVariants.{Setup, Release, Protect, Retry, Revert, Fail, Repair}, declared.commands.Event.TheVariants.Post, Network.Network}
use Rattle.mesh_rules.specs.Failures.{with_group, without_group}
use Rattle.world_rules.specs.{WorldRuns.world_step, Worlds.{World, world_start, with_event}}
use Rattle.world_merge.specs.{Deeds.{Deed, Handled, Heard, Posted, Ticked, Took, alone, alone_from, done}, Logs.is_posted, Posts.{HasSamePosts, PostsTellTheRest}}
use Rattle.world_rules.proofs.Delivered.{IsWorldKept, kept-delivered}

same_post : (t : Network) (w v : World) (c : Command) → HasSamePosts w v →
    HasSamePosts (world_step t w (Post c)) (world_step t v (Post c))
same_post t w v (Setup k from to protected both via backup) is =
    record { posted = ap (λ ps. ps ++ k ∷ []) is.posted; failed = is.failed }
same_post t w v (Release k from) is = record { posted = is.posted; failed = is.failed }
same_post t w v (Protect k from) is = record { posted = is.posted; failed = is.failed }
same_post t w v (Retry k from) is = record { posted = is.posted; failed = is.failed }
same_post t w v (Revert k from) is = record { posted = is.posted; failed = is.failed }
same_post t w v (Fail g) is = record { posted = is.posted; failed = ap (with_group g) is.failed }
same_post t w v (Repair g) is = record { posted = is.posted; failed = ap (without_group g) is.failed }

posts_alone : (t : Network) (n m : NodeId) (w v : World) (ds : List Deed) → HasSamePosts w v →
    HasSamePosts (alone_from t n w ds) (alone_from t m v (filter is_posted ds))
posts_alone t n m w v [] is = is
posts_alone t n m w v (Posted s c ∷ ds) is =
    posts_alone t n m (world_step t w (Post c)) (world_step t v (Post c)) ds (same_post t w v c is)
posts_alone t n m w v (Ticked s ∷ ds) is =
    posts_alone t n m (done t n w (Ticked s)) v ds (record { posted = is.posted; failed = is.failed })
posts_alone t n m w v (Handled s ∷ ds) is =
    posts_alone t n m (done t n w (Handled s)) v ds (record { posted = is.posted; failed = is.failed })
posts_alone t n m w v (Heard s u bytes ∷ ds) is =
    posts_alone t n m (done t n w (Heard s u bytes)) v ds (record { posted = is.posted; failed = is.failed })
posts_alone t n m w v (Took s u k x ∷ ds) is =
    posts_alone t n m (done t n w (Took s u k x)) v ds
    (record { posted = kept.posted ∙ is.posted; failed = kept.failed ∙ is.failed })
  where
    kept : IsWorldKept (with_event w n.0) (done t n w (Took s u k x)) n.0
    kept = kept-delivered t (with_event w n.0) n u (Some x) n.0

pub posts-tell-the-rest : PostsTellTheRest
posts-tell-the-rest t n m ds es same = record {
  posted = here.posted ∙ sym there.posted;
  failed = here.failed ∙ sym there.failed;
}
  where
    both : HasSamePosts (world_start t) (world_start t)
    both = record { posted = refl; failed = refl }

    here : HasSamePosts (alone t n ds) (alone t n (filter is_posted es))
    here = subst (λ ps. HasSamePosts (alone t n ds) (alone t n ps)) same
        (posts_alone t n n (world_start t) (world_start t) ds both)

    there : HasSamePosts (alone t m es) (alone t n (filter is_posted es))
    there = posts_alone t m n (world_start t) (world_start t) es both
