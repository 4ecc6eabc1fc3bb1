-- A script posts the first commands of its lines.
use Rattle.std.proofs.{Common.{◌≡◌, ◌∙◌, ◌==◌, ℕ, zero, suc, Bool, true, false, cond, List, [], ◌∷◌, ◌++◌, map, length, refl, ap, sym, subst, append-nil, append_assoc, arith}, lemmas.List.Concat.flat_map-append}
use Rattle.std.specs.Prelude.{◌+◌, Some}
use Rattle.ason_base.specs.{declared.limits.TheConstants.MOST_EVENTS, Network.Network, declared.commands.Command.Command, declared.commands.Entry.Entry, declared.ids.NodeId.NodeId}
use mathlib.Core.List.{IsPrefix}
use Rattle.round_rules.specs.{Commands.{greatest_clock, noised}, Fleets.HasGrown, Doings.{Did, Doing, deeds_in}, Functions.clock_of, Records.{Record, deeds_at, log_at, posts_in}}
use Rattle.plan_reader.specs.{declared.lines.Line.Line, declared.lines.Line.TheVariants.{Noise, Post, Settle, Wait, Show}, declared.plan.Plan.Plan}
use Rattle.plan_reader.specs.declared.lines.Line.TheVariants as said
use Rattle.round_rules.proofs.Desks.{deeds-more}
use Rattle.script_rules.specs.{ScriptLaws.ScriptRoundLaws, Outputs.{How, Prints, script_of}, Stages.{IsNextRound, LineMakes, Stage, is_settled, is_stopped, last_stage_of, new_stage, with_line, with_noise, with_post}}
use Rattle.script_rules.proofs.{Follows.last_append, Grows.{lines_more, round_grows}, Posts.lines_none, Rounds.{GoesRounds, settles-go, waits-go}}
use Rattle.world_merge.specs.{Deeds.{Heard, Posted}, Histories.at, Logs.{is_posted, line_of, posts_of}}
use Rattle.trace_text.specs.Complete.{EveryScriptPosts, command_in, commands_of, posted_in}

-- what was posted up to a stage
abbrev given : Stage → List Command
given s = posted_in (posts_in s.made)

-- More that was done

more_posts : (before after : Record) (added : List Doing) → after.doings 0 ≡ before.doings 0 ++ added →
    posts_in after ≡ posts_in before ++ posts_of (at 0) (deeds_in added)
more_posts before after added all =
    ap (λ ds. posts_of (at 0) (deeds_in ds)) all
    ∙ (ap (posts_of (at 0)) (deeds-more (before.doings 0) added)
    ∙ lines_more is_posted (at 0) (deeds_at before 0) (deeds_in added))

more_given : (before after : Record) (added : List Doing) → after.doings 0 ≡ before.doings 0 ++ added →
    posted_in (posts_in after) ≡ posted_in (posts_in before) ++ posted_in (posts_of (at 0) (deeds_in added))
more_given before after added all =
    ap posted_in (more_posts before after added all)
    ∙ flat_map-append (λ (e : Entry). command_in e.event) (posts_in before) (posts_of (at 0) (deeds_in added))

-- of what posts nothing
none_given : (before after : Record) (added : List Doing) → after.doings 0 ≡ before.doings 0 ++ added →
    posts_of (at 0) (deeds_in added) ≡ [] → posted_in (posts_in after) ≡ posted_in (posts_in before)
none_given before after added all none =
    more_given before after added all
    ∙ (ap (λ (es : List Entry). posted_in (posts_in before) ++ posted_in es) none
    ∙ append-nil (posted_in (posts_in before)))

-- Lines that post nothing

round_gives : ScriptRoundLaws → (t : Network) (workers : ℕ) (s a : Stage) → IsNextRound t workers s a →
    given a ≡ given s
round_gives laws t workers s a next =
    none_given s.made a.made grown.added grown.all (ap (map (line_of (at 0))) grown.no_post)
  where
    grown : HasGrown s.made a.made 0
    grown = round_grows laws t workers s a next (at 0)

rounds_give : ScriptRoundLaws → (over : Stage → Bool) (t : Network) (workers rounds : ℕ) (s : Stage) (more : List Stage) →
    GoesRounds over t workers rounds s more → given (last_stage_of s more) ≡ given s
rounds_give laws over t workers zero s [] x = refl
rounds_give laws over t workers zero s (a ∷ more) x = absurd x
rounds_give laws over t workers (suc rounds) s [] x = refl
rounds_give laws over t workers (suc rounds) s (a ∷ more) x =
    rounds_give laws over t workers rounds a more x.2 ∙ round_gives laws t workers s a x.1

noised_gives : (u d : NodeId) (bytes : List ℕ) (r : Record) →
    posted_in (posts_in (noised u d bytes r)) ≡ posted_in (posts_in r)
noised_gives u d bytes r = by_test (0 == d.0) refl
  where
    heard : Doing
    heard = Did (Heard (clock_of (r.doings d.0) + 1) u bytes)

    by_test : (b : Bool) → (0 == d.0) ≡ b →
        posted_in (posts_of (at 0) (deeds_in (cond b (r.doings d.0 ++ heard ∷ []) (r.doings 0))))
        ≡ posted_in (posts_in r)
    by_test true e =
        let same : d.0 ≡ 0 = grind (arith, e) in
        ap (λ m. posted_in (posts_of (at 0) (deeds_in (r.doings m ++ heard ∷ [])))) same
        ∙ none_given r (record r { doings = λ m. r.doings m ++ heard ∷ [] }) (heard ∷ []) refl refl
    by_test false e = refl

noise_gives : (u d : NodeId) (bytes : List ℕ) (s : Stage) (full : Bool) →
    given (cond full (record s { stopped = Some d }) (record s { made = noised u d bytes s.made })) ≡ given s
noise_gives u d bytes s true = refl
noise_gives u d bytes s false = noised_gives u d bytes s.made

-- a stage that comes unless the run is stopped
unless_gives : (s a : Stage) (b : Bool) → given a ≡ given s → given (last_stage_of s (cond b [] (a ∷ []))) ≡ given s
unless_gives s a true same = refl
unless_gives s a false same = same

-- Posts

post_gives : (t : Network) (c : Command) (s : Stage) → given (with_post t c s) ≡ given s ++ c ∷ []
post_gives t c s =
    more_given s.made (with_post t c s).made (Did (Posted (greatest_clock t s.made + 1) c) ∷ []) refl

-- Scripts

-- From this stage to the last one the first of these commands were posted.
record HavePosted (s last : Stage) (commands : List Command) : Type 0 where
  pub first : List Command
  pub part : IsPrefix first commands
  pub all : given last ≡ given s ++ first

-- stages that post nothing come first
posted_later : (s : Stage) (first others more : List Stage) (commands : List Command) → more ≡ first ++ others →
    given (last_stage_of s first) ≡ given s →
    HavePosted (last_stage_of s first) (last_stage_of (last_stage_of s first) others) commands →
    HavePosted s (last_stage_of s more) commands
posted_later s first others more commands all same h = record {
  first = h.first;
  part = h.part;
  all = ap (λ ss. given (last_stage_of s ss)) all
      ∙ (ap given (last_append s first others) ∙ (h.all ∙ ap (λ cs. cs ++ h.first) same));
}

module _ (laws : ScriptRoundLaws) (p : Plan) (how : How) where
  -- the lines behind it post the first ones of their commands
  post_first : (c : Command) (lines : List Line) (s : Stage) (more : List Stage) (text : List ℕ) →
      (prints : Prints p how (Post c ∷ lines) s more text) →
      HavePosted (last_stage_of s prints.0) (last_stage_of (last_stage_of s prints.0) prints.1) (commands_of lines) →
      HavePosted s (last_stage_of s more) (c ∷ commands_of lines)
  post_first c lines s more text prints h = by_test (is_stopped s) refl
    where
      next : Stage
      next = with_post p.topology c s

      by_test : (b : Bool) → is_stopped s ≡ b → HavePosted s (last_stage_of s more) (c ∷ commands_of lines)
      by_test true stop =
          let none : more ≡ [] = lines_none p how (Post c ∷ lines) s more text stop prints in
          record {
            first = [];
            part = (c ∷ commands_of lines, refl);
            all = ap (λ ss. given (last_stage_of s ss)) none ∙ sym (append-nil (given s));
          }
      by_test false going =
          let one : prints.0 ≡ next ∷ [] = prints.4 ∙ ap (λ b. cond b [] (next ∷ [])) going in
          let gives : given (last_stage_of s prints.0) ≡ given s ++ c ∷ [] =
          ap (λ ss. given (last_stage_of s ss)) one ∙ post_gives p.topology c s in
          record {
            first = c ∷ h.first;
            part = (h.part.0, ap (λ cs. c ∷ cs) h.part.1);
            all = ap (λ ss. given (last_stage_of s ss)) prints.7
                ∙ (ap given (last_append s prints.0 prints.1)
                ∙ (h.all ∙ (ap (λ cs. cs ++ h.first) gives ∙ append_assoc (given s) (c ∷ []) h.first)));
          }

  line_gives : (line : Line) (s : Stage) (more : List Stage) → LineMakes p.topology how.workers line s more →
      commands_of (line ∷ []) ≡ [] → given (last_stage_of s more) ≡ given s
  line_gives (Post c) s more x none = absurd (cc (none))
  line_gives (said.Disturb d) s more x none =
      ap (λ ss. given (last_stage_of s ss)) x ∙ unless_gives s (with_line p.topology d s) (is_stopped s) refl
  line_gives (Noise u d bytes) s more x none =
      ap (λ ss. given (last_stage_of s ss)) x
      ∙ unless_gives s (with_noise u d bytes s) (is_stopped s)
      (noise_gives u d bytes s (length (log_at s.made d.0) == MOST_EVENTS))
  line_gives (Settle rounds) s more x none =
      rounds_give laws (is_settled p.topology) p.topology how.workers rounds s more
      (settles-go p.topology how.workers rounds s more x)
  line_gives (Wait rounds) s more x none =
      rounds_give laws is_stopped p.topology how.workers rounds s more
      (waits-go p.topology how.workers rounds s more x)
  line_gives Show s more x none = ap (λ ss. given (last_stage_of s ss)) x

  lines_post : (lines : List Line) (s : Stage) (more : List Stage) (text : List ℕ) → Prints p how lines s more text →
      HavePosted s (last_stage_of s more) (commands_of lines)
  lines_post [] s more text prints = record {
    first = [];
    part = ([], refl);
    all = ap (λ ss. given (last_stage_of s ss)) prints.0 ∙ sym (append-nil (given s));
  }
  lines_post (line ∷ lines) s more text prints =
      by_line line prints (lines_post lines (last_stage_of s prints.0) prints.1 prints.3 prints.6)
    where
      by_line : (line : Line) (prints : Prints p how (line ∷ lines) s more text) →
          HavePosted (last_stage_of s prints.0) (last_stage_of (last_stage_of s prints.0) prints.1) (commands_of lines)
          →
          HavePosted s (last_stage_of s more) (commands_of (line ∷ lines))
      by_line (Post c) prints h = post_first c lines s more text prints h
      by_line (said.Disturb d) prints h =
          posted_later s prints.0 prints.1 more (commands_of lines) prints.7
          (line_gives (said.Disturb d) s prints.0 prints.4 refl) h
      by_line (Noise u d bytes) prints h =
          posted_later s prints.0 prints.1 more (commands_of lines) prints.7
          (line_gives (Noise u d bytes) s prints.0 prints.4 refl) h
      by_line (Settle rounds) prints h =
          posted_later s prints.0 prints.1 more (commands_of lines) prints.7
          (line_gives (Settle rounds) s prints.0 prints.4 refl) h
      by_line (Wait rounds) prints h =
          posted_later s prints.0 prints.1 more (commands_of lines) prints.7
          (line_gives (Wait rounds) s prints.0 prints.4 refl) h
      by_line Show prints h =
          posted_later s prints.0 prints.1 more (commands_of lines) prints.7
          (line_gives Show s prints.0 prints.4 refl) h

-- what comes before lines that post nothing
commands_before : (lines others : List Line) → commands_of others ≡ [] →
    commands_of (lines ++ others) ≡ commands_of lines
commands_before [] others none = none
commands_before (Post c ∷ lines) others none = ap (λ cs. c ∷ cs) (commands_before lines others none)
commands_before (said.Disturb d ∷ lines) others none = commands_before lines others none
commands_before (Noise u d bytes ∷ lines) others none = commands_before lines others none
commands_before (Settle r ∷ lines) others none = commands_before lines others none
commands_before (Wait r ∷ lines) others none = commands_before lines others none
commands_before (Show ∷ lines) others none = commands_before lines others none

-- What a plan's script has posted are the first commands of the plan's lines.
pub script_posts : EveryScriptPosts
script_posts laws p how more text prints =
    let h = lines_post laws p how (script_of p) new_stage more text prints in
    let same : commands_of (script_of p) ≡ commands_of p.lines =
    commands_before p.lines (Settle 1000 ∷ (Show ∷ [])) refl in
    subst (λ (cs : List Command). IsPrefix cs (commands_of p.lines)) (sym h.all)
    (subst (λ (cs : List Command). IsPrefix h.first cs) same h.part)
