-- The setups that were posted are those of the lines.
use Rattle.std.proofs.{Common.{◌≡◌, ℕ, zero, suc, Bool, true, false, cond, List, [], ◌∷◌, ◌++◌, filter, length, refl, ap, sym, ◌∙◌, append-nil}, lemmas.List.Elements.filter-append}
use Rattle.std.specs.Prelude.{◌+◌, ◌==◌, ◌||◌, Some}
use Rattle.ason_base.specs.{declared.limits.TheConstants.MOST_EVENTS, declared.commands.Command.Command, declared.commands.Command.TheVariants.Fail, declared.ids.NodeId.NodeId, Network.Network}
use Rattle.ason_base.proofs.Bools.{not-both}
use Rattle.world_rules.specs.WorldRuns as runs
use Rattle.world_rules.specs.Worlds.{World, world_start}
use Rattle.world_merge.specs.{Deeds.{Posted, alone}, Histories.at, Logs.is_posted}
use Rattle.world_merge.proofs.{Posting.posts-tell-the-rest, Splitting.alone-more}
use Rattle.round_rules.specs.{Doings.{Did, deeds_in}, Records.{Record, deeds_at, log_at, world_of}, Commands.{greatest_clock, noised, record_posted}, Fleets.HasGrown}
use Rattle.round_rules.proofs.{Desks.deeds-more, Assembling.noise-is-a-step}
use Rattle.plan_reader.specs.{declared.lines.Line.Line, declared.lines.Line.TheVariants.{Noise, Post, Settle, Wait, Show}, Plans.{calls_after, calls_after_line, calls_after_lines}, declared.plan.Plan.Plan}
use Rattle.plan_reader.specs.declared.lines.Line.TheVariants as said
use Rattle.script_rules.specs.{ScriptLaws.{PostsFollowLines, ScriptRoundLaws}, Outputs.{How, Prints}, Stages.{IsNextRound, LineMakes, Settles, Stage, WaitsRounds, is_settled, is_stopped, last_stage_of, with_line, with_noise, with_post, world_at}}
use Rattle.script_rules.proofs.{Follows.last_append, Grows.round_grows, Rounds.{GoesRounds, settles-go, waits-go}}

-- Once the run is stopped nothing is made

not_either : (a b : Bool) → a ≡ true → (a || b) ≡ false → ⊥
not_either true b e f = absurd (cc (f))
not_either false b e f = absurd (cc (e))

settles_none : (t : Network) (workers rounds : ℕ) (s : Stage) (more : List Stage) → is_stopped s ≡ true →
    Settles t workers rounds s more → more ≡ []
settles_none t workers zero s [] stop x = refl
settles_none t workers zero s (a ∷ more) stop x = absurd x
settles_none t workers (suc rounds) s [] stop x = refl
settles_none t workers (suc rounds) s (a ∷ more) stop x = absurd (not_either (is_stopped s) _ stop x.0)

waits_none : (t : Network) (workers rounds : ℕ) (s : Stage) (more : List Stage) → is_stopped s ≡ true →
    WaitsRounds t workers rounds s more → more ≡ []
waits_none t workers zero s [] stop x = refl
waits_none t workers zero s (a ∷ more) stop x = absurd x
waits_none t workers (suc rounds) s [] stop x = refl
waits_none t workers (suc rounds) s (a ∷ more) stop x = absurd (not-both (is_stopped s) stop x.0)

line_none : (t : Network) (workers : ℕ) (line : Line) (s : Stage) (more : List Stage) → is_stopped s ≡ true →
    LineMakes t workers line s more → more ≡ []
line_none t workers (Post c) s more stop x = x ∙ ap (λ b. cond b [] (with_post t c s ∷ [])) stop
line_none t workers (said.Disturb d) s more stop x = x ∙ ap (λ b. cond b [] (with_line t d s ∷ [])) stop
line_none t workers (Noise u d bytes) s more stop x =
    x ∙ ap (λ b. cond b [] (with_noise u d bytes s ∷ [])) stop
line_none t workers (Settle rounds) s more stop x = settles_none t workers rounds s more stop x
line_none t workers (Wait rounds) s more stop x = waits_none t workers rounds s more stop x
line_none t workers Show s more stop x = x

-- Lines that come after the stop make no stage.
pub lines_none : (p : Plan) (how : How) (lines : List Line) (s : Stage) (more : List Stage) (text : List ℕ) →
    is_stopped s ≡ true → Prints p how lines s more text → more ≡ []
lines_none p how [] s more text stop prints = prints.0
lines_none p how (line ∷ lines) s more text stop prints =
    let first : prints.0 ≡ [] = line_none p.topology how.workers line s prints.0 stop prints.4 in
    let still : is_stopped (last_stage_of s prints.0) ≡ true =
    ap (λ ss. is_stopped (last_stage_of s ss)) first ∙ stop in
    let others : prints.1 ≡ [] = lines_none p how lines (last_stage_of s prints.0) prints.1 prints.3 still prints.6 in
    prints.7 ∙ λ i. first i ++ others i

-- What is posted

round_posts : ScriptRoundLaws → (t : Network) (workers : ℕ) (s a : Stage) → IsNextRound t workers s a →
    (world_at t a).posted ≡ (world_at t s).posted
round_posts laws t workers s a next =
    (posts-tell-the-rest t (at 0) (at 0) (deeds_at a.made 0) (deeds_at s.made 0)
    (ap (λ ds. filter is_posted (deeds_in ds)) grown.all
    ∙ (ap (filter is_posted) (deeds-more (s.made.doings 0) grown.added)
    ∙ (filter-append is_posted (deeds_at s.made 0) (deeds_in grown.added)
    ∙ (ap (λ ds. filter is_posted (deeds_at s.made 0) ++ ds) grown.no_post
    ∙ append-nil (filter is_posted (deeds_at s.made 0))))))).posted
  where
    grown : HasGrown s.made a.made 0
    grown = round_grows laws t workers s a next (at 0)

rounds_post : ScriptRoundLaws → (over : Stage → Bool) (t : Network) (workers rounds : ℕ) (s : Stage) (more : List Stage) →
    GoesRounds over t workers rounds s more → (world_at t (last_stage_of s more)).posted ≡ (world_at t s).posted
rounds_post laws over t workers zero s [] x = refl
rounds_post laws over t workers zero s (a ∷ more) x = absurd x
rounds_post laws over t workers (suc rounds) s [] x = refl
rounds_post laws over t workers (suc rounds) s (a ∷ more) x =
    rounds_post laws over t workers rounds a more x.2 ∙ round_posts laws t workers s a x.1

posted_calls : (t : Network) (w : World) (c : Command) → (runs.world_posted t w c).posted ≡ calls_after w.posted c
posted_calls t w (Fail g) = refl
posted_calls t w c = refl

command_posts : (t : Network) (c : Command) (r : Record) →
    (world_of t (record_posted t c r)).posted ≡ calls_after (world_of t r).posted c
command_posts t c r =
    let post = Posted (greatest_clock t r + 1) c in
    ap (λ ds. (alone t (at 0) ds).posted) (deeds-more (r.doings 0) (Did post ∷ []))
    ∙ (ap (λ (w : World). w.posted) (alone-more t (at 0) (world_start t) (deeds_at r 0) (post ∷ []))
    ∙ posted_calls t (alone t (at 0) (deeds_at r 0)) c)

post_posts : (t : Network) (c : Command) (s : Stage) (b : Bool) → is_stopped s ≡ b →
    is_stopped (last_stage_of s (cond b [] (with_post t c s ∷ []))) ≡ false →
    (world_at t (last_stage_of s (cond b [] (with_post t c s ∷ [])))).posted ≡ calls_after (world_at t s).posted c
post_posts t c s true stop going = absurd (not-both (is_stopped s) stop going)
post_posts t c s false stop going = command_posts t c s.made

-- noise posts nothing
noise_posts : (t : Network) (u d : NodeId) (bytes : List ℕ) (s : Stage) (full : Bool) →
    (world_at t (cond full (record s { stopped = Some d }) (record s { made = noised u d bytes s.made }))).posted
    ≡ (world_at t s).posted
noise_posts t u d bytes s true = refl
noise_posts t u d bytes s false = ap (λ (w : World). w.posted) (noise-is-a-step t u d bytes s.made)

-- a line that posts nothing makes one stage
one_stage_posts : (t : Network) (s a : Stage) (b : Bool) → (world_at t a).posted ≡ (world_at t s).posted →
    (world_at t (last_stage_of s (cond b [] (a ∷ [])))).posted ≡ (world_at t s).posted
one_stage_posts t s a true same = refl
one_stage_posts t s a false same = same

line_posts : ScriptRoundLaws → (t : Network) (workers : ℕ) (line : Line) (s : Stage) (more : List Stage) →
    LineMakes t workers line s more → is_stopped (last_stage_of s more) ≡ false →
    (world_at t (last_stage_of s more)).posted ≡ calls_after_line (world_at t s).posted line
line_posts laws t workers (Post c) s more x going =
    ap (λ ss. (world_at t (last_stage_of s ss)).posted) x
    ∙ post_posts t c s (is_stopped s) refl (sym (ap (λ ss. is_stopped (last_stage_of s ss)) x) ∙ going)
line_posts laws t workers (said.Disturb d) s more x going =
    ap (λ ss. (world_at t (last_stage_of s ss)).posted) x ∙ one_stage_posts t s (with_line t d s) (is_stopped s) refl
line_posts laws t workers (Noise u d bytes) s more x going =
    ap (λ ss. (world_at t (last_stage_of s ss)).posted) x
    ∙ one_stage_posts t s (with_noise u d bytes s) (is_stopped s)
    (noise_posts t u d bytes s (length (log_at s.made d.0) == MOST_EVENTS))
line_posts laws t workers (Settle rounds) s more x going =
    rounds_post laws (is_settled t) t workers rounds s more (settles-go t workers rounds s more x)
line_posts laws t workers (Wait rounds) s more x going =
    rounds_post laws is_stopped t workers rounds s more (waits-go t workers rounds s more x)
line_posts laws t workers Show s more x going = ap (λ ss. (world_at t (last_stage_of s ss)).posted) x

pub posts_follow : PostsFollowLines
posts_follow laws p how [] s more text prints going =
    ap (λ ss. (world_at p.topology (last_stage_of s ss)).posted) prints.0
posts_follow laws p how (line ∷ lines) s more text prints going =
    go (is_stopped (last_stage_of s prints.0)) refl
    (posts_follow laws p how lines (last_stage_of s prints.0) prints.1 prints.3 prints.6)
  where
    ends : last_stage_of s more ≡ last_stage_of (last_stage_of s prints.0) prints.1
    ends = ap (last_stage_of s) prints.7 ∙ last_append s prints.0 prints.1

    none : is_stopped (last_stage_of s prints.0) ≡ true → last_stage_of s more ≡ last_stage_of s prints.0
    none stop = ends ∙ ap (last_stage_of (last_stage_of s prints.0))
        (lines_none p how lines (last_stage_of s prints.0) prints.1 prints.3 stop prints.6)

    go : (b : Bool) → is_stopped (last_stage_of s prints.0) ≡ b →
        (is_stopped (last_stage_of (last_stage_of s prints.0) prints.1) ≡ false →
        (world_at p.topology (last_stage_of (last_stage_of s prints.0) prints.1)).posted
        ≡ calls_after_lines (world_at p.topology (last_stage_of s prints.0)).posted lines) →
        (world_at p.topology (last_stage_of s more)).posted
        ≡ calls_after_lines (world_at p.topology s).posted (line ∷ lines)
    go true stop rest =
        absurd (not-both (is_stopped (last_stage_of s prints.0)) stop (sym (ap is_stopped (none stop)) ∙ going))
    go false goes rest =
        ap (λ z. (world_at p.topology z).posted) ends
        ∙ (rest (sym (ap is_stopped ends) ∙ going)
        ∙ ap (λ q. calls_after_lines q lines)
        (line_posts laws p.topology how.workers line s prints.0 prints.4 goes))
