-- What the nodes do beyond a record, merged, is a run from its world.
use Rattle.std.proofs.Common.{◌≡◌, ℕ, List, [], ◌∷◌, Bool, true, false, cond, map, refl, sym, ap, ◌∙◌}
use Rattle.std.specs.{Prelude.filter, List.AllByRecursion}
use Rattle.ason_base.specs.{declared.ids.NodeId.NodeId, declared.commands.Entry.Entry, declared.commands.Event.TheVariants.Post, Network.Network}
use Rattle.world_rules.specs.WorldRuns.{world_after}
use Rattle.world_merge.specs.{Deeds.{Deed, Handled, Heard, Posted, Ticked, Took, alone}, Histories.at, Logs.{is_posted, line_of, posts_of}, Merges.{Agrees, events_of}, Posts.HasSamePosts}
use Rattle.world_merge.proofs.{Agreeing.agree, MergedRuns.{Runs, runs, same-joined}, Posting.posts-tell-the-rest, Splitting.SplitFits}
use Rattle.round_rules.specs.{Doings.deeds_in, Records.{Record, deeds_at, world_of}, PossibleRecords.IsRecord}
use Rattle.round_rules.proofs.Desks.{deeds-more}
use Rattle.round_laws.specs.GoingOn.{MergesGoOn}

-- Lists

-- The world of a record agrees with each node

-- lines of posts tell the posts, whichever node has them
abbrev ArePosted : List Deed → Type 0
ArePosted ds = AllByRecursion (λ (d : Deed). is_posted d ≡ true) ds

all_posted : (ds : List Deed) → ArePosted (filter is_posted ds)
all_posted [] = tt
all_posted (d ∷ ds) = go (is_posted d) refl (all_posted ds)
  where
    go : (b : Bool) → is_posted d ≡ b → ArePosted (filter is_posted ds) →
        ArePosted (cond b (d ∷ filter is_posted ds) (filter is_posted ds))
    go true e rest = (e, rest)
    go false e rest = rest

post_told : (n m : NodeId) (d e : Deed) → is_posted d ≡ true → is_posted e ≡ true → line_of n d ≡ line_of m e → d ≡ e
post_told n m (Posted s c) (Posted r b) p q same =
    let stamps : s ≡ r = ap (λ (e : Entry). e.stamp) same in
    let events : Post c ≡ Post b = ap (λ (e : Entry). e.event) same in
    let commands : c ≡ b = cc (events) in
    (λ i. Posted (stamps i) (commands i))
post_told n m (Ticked s) e p q same = absurd (cc (p))
post_told n m (Handled s) e p q same = absurd (cc (p))
post_told n m (Took s u k x) e p q same = absurd (cc (p))
post_told n m (Heard s u bytes) e p q same = absurd (cc (p))
post_told n m d (Ticked s) p q same = absurd (cc (q))
post_told n m d (Handled s) p q same = absurd (cc (q))
post_told n m d (Took s u k x) p q same = absurd (cc (q))
post_told n m d (Heard s u bytes) p q same = absurd (cc (q))

lines_told : (n m : NodeId) (ds es : List Deed) → ArePosted ds → ArePosted es → map (line_of n) ds ≡ map (line_of m) es →
    ds ≡ es
lines_told n m [] [] p q same = refl
lines_told n m [] (e ∷ es) p q same = absurd (cc (same))
lines_told n m (d ∷ ds) [] p q same = absurd (cc (same))
lines_told n m (d ∷ ds) (e ∷ es) p q same =
    let head : line_of n d ≡ line_of m e = cc (same) in
    let tail : map (line_of n) ds ≡ map (line_of m) es = cc (same) in
    let one : d ≡ e = post_told n m d e p.0 q.0 head in
    let more : ds ≡ es = lines_told n m ds es p.1 q.1 tail in
    (λ i. one i ∷ more i)

posts_told : (n m : NodeId) (ds es : List Deed) → posts_of n ds ≡ posts_of m es → filter is_posted ds ≡ filter is_posted es
posts_told n m ds es same =
    lines_told n m (filter is_posted ds) (filter is_posted es) (all_posted ds) (all_posted es) same

agrees_alone : (t : Network) (r : Record) → IsRecord t r → (n : ℕ) →
    Agrees n (world_of t r) (alone t (at n) (deeds_at r n))
agrees_alone t r is n =
    let same : HasSamePosts (alone t (at 0) (deeds_at r 0)) (alone t (at n) (deeds_at r n)) =
    posts-tell-the-rest t (at 0) (at n) (deeds_at r 0) (deeds_at r n)
    (posts_told (at 0) (at n) (deeds_at r 0) (deeds_at r n) (sym (is.posts n))) in
    agree n (world_of t r) (alone t (at n) (deeds_at r n)) refl refl (λ d. refl) refl (λ d. refl) refl same.posted
    same.failed

-- What the nodes add, merged, leads on from the world of the record.
pub merges-go_on : MergesGoOn
merges-go_on t old new added m is is_new are is_merge = record {
  run = r.run;
  leads = same-joined (λ n. world_after t (world_of t old) (events_of m)) (λ n. alone t (at n) (deeds_at new n))
      r.parts;
}
  where
    fits : SplitFits t (deeds_at new) (world_of t old) (deeds_at old) (λ n. deeds_in (added n)) m
    fits = record {
      world = agrees_alone t old is;
      lines = is_merge.parts;
      whole = λ n. ap deeds_in (are n) ∙ deeds-more (old.doings n) (added n);
    }

    r : Runs t (deeds_at new) (world_of t old) m
    r = runs t (deeds_at new) is_new.histories m 0 is_merge.ascends (world_of t old) (deeds_at old)
        (λ n. deeds_in (added n)) fits
