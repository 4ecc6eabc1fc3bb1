-- From stage to stage logs and posts grow at their ends, and what is posted follows the lines.
use Rattle.std.proofs.{Common.{◌≡◌, ℕ, zero, suc, Bool, true, false, cond, List, [], ◌∷◌, ◌++◌, filter, length, map, refl, ap, sym, subst, ◌∙◌, append-nil, arith}, lemmas.List.Elements.filter-append, lemmas.List.map-append}
use Rattle.std.specs.Prelude.{◌+◌, ◌==◌, not, Option, None, Some}
use Rattle.ason_base.specs.{declared.limits.TheConstants.MOST_EVENTS, declared.commands.Command.Command, declared.commands.Disturb.Disturb, declared.commands.Entry.Entry, declared.ids.NodeId.NodeId, Network.Network}
use Rattle.world_merge.specs.{Deeds.{Deed, Heard, Posted}, Histories.at, Logs.{is_posted, line_of}}
use Rattle.round_rules.specs.{Doings.{Did, Doing, deeds_in}, Functions.clock_of, Records.{Record, deeds_at, log_at}, Commands.{greatest_clock, noised, record_posted}, Fleets.HasGrown}
use Rattle.round_rules.proofs.Desks.{deeds-more}
use Rattle.plan_reader.specs.{declared.lines.Line.Line, declared.lines.Line.TheVariants.{Noise, Post, Settle, Wait, Show}}
use Rattle.plan_reader.specs.declared.lines.Line.TheVariants as said
use Rattle.script_rules.specs.{Growing.{AreGrowing, GrowsTo}, ScriptLaws.{ScriptRoundLaws, ScriptsGrow}, Stages.{ComesTo, IsNextRound, LineMakes, Stage, is_settled, is_stopped, last_stage_of, with_line, with_post}}
use Rattle.script_rules.proofs.Rounds.{GoesRounds, settles-go, waits-go}

-- Rounds

-- in a round nothing is posted
grown_to : ScriptRoundLaws → (t : Network) (lines : List Disturb) (workers : ℕ) (before after : Record)
    (o : Option NodeId) → ComesTo t lines workers before after o → (n : NodeId) → HasGrown before after n.0
grown_to laws t lines workers before after None comes = laws.whole t lines before after comes.round
grown_to laws t lines workers before after (Some n) comes = laws.cut t lines before after comes.unfinished

-- At each node more was done in a round, and nothing was posted.
pub round_grows : ScriptRoundLaws → (t : Network) (workers : ℕ) (s a : Stage) → IsNextRound t workers s a →
    (n : NodeId) → HasGrown s.made a.made n.0
round_grows laws t workers s a next = grown_to laws t s.lines workers s.made a.made a.stopped next.comes

-- Growing

pub lines_more : (p : Deed → Bool) (n : NodeId) (ds es : List Deed) →
    map (line_of n) (filter p (ds ++ es)) ≡ map (line_of n) (filter p ds) ++ map (line_of n) (filter p es)
lines_more p n ds es =
    ap (map (line_of n)) (filter-append p ds es) ∙ map-append (line_of n) (filter p ds) (filter p es)

-- at each number more was done
abbrev HasMore : Record → Record → ℕ → Type 0
HasMore before after n = (added : List Doing) × (after.doings n ≡ before.doings n ++ added)

more_deeds : (before after : Record) (n : ℕ) (more : HasMore before after n) →
    deeds_at before n ++ deeds_in more.0 ≡ deeds_at after n
more_deeds before after n more = sym (deeds-more (before.doings n) more.0) ∙ sym (ap deeds_in more.1)

grows : (before after : Record) → ((n : ℕ) → HasMore before after n) → GrowsTo before after
grows before after more = record { logs = λ n. part (λ d. not (is_posted d)) n; posts = part is_posted 0 }
  where
    part : (p : Deed → Bool) (n : ℕ) → (rest : List Entry)
        × (map (line_of (at n)) (filter p (deeds_at before n)) ++ rest
        ≡ map (line_of (at n)) (filter p (deeds_at after n)))
    part p n = (
      map (line_of (at n)) (filter p (deeds_in (more n).0)),
      sym (lines_more p (at n) (deeds_at before n) (deeds_in (more n).0))
          ∙ ap (λ ds. map (line_of (at n)) (filter p ds)) (more_deeds before after n (more n)),
    )

next_grows : ScriptRoundLaws → (t : Network) (workers : ℕ) (s a : Stage) → IsNextRound t workers s a →
    GrowsTo s.made a.made
next_grows laws t workers s a next =
    let each = round_grows laws t workers s a next in
    grows s.made a.made (λ n. ((each (at n)).added, (each (at n)).all))

rounds_grow : ScriptRoundLaws → (over : Stage → Bool) (t : Network) (workers rounds : ℕ) (s : Stage) (more : List Stage) →
    GoesRounds over t workers rounds s more → AreGrowing s more
rounds_grow laws over t workers zero s [] x = tt
rounds_grow laws over t workers zero s (a ∷ more) x = absurd x
rounds_grow laws over t workers (suc rounds) s [] x = tt
rounds_grow laws over t workers (suc rounds) s (a ∷ more) x =
    (next_grows laws t workers s a x.1, rounds_grow laws over t workers rounds a more x.2)

post_grows : (t : Network) (c : Command) (s : Stage) (b : Bool) →
    AreGrowing s (cond b [] (with_post t c s ∷ []))
post_grows t c s true = tt
post_grows t c s false =
    (grows s.made (record_posted t c s.made) (λ n. (Did (Posted (greatest_clock t s.made + 1) c) ∷ [], refl)), tt)

-- what the nodes did stays
stays_grown : (r : Record) → GrowsTo r r
stays_grown r = grows r r (λ n. ([], sym (append-nil (r.doings n))))

line_kept : (t : Network) (d : Disturb) (s : Stage) (b : Bool) → AreGrowing s (cond b [] (with_line t d s ∷ []))
line_kept t d s true = tt
line_kept t d s false = (stays_grown s.made, tt)

-- one node heard more
noise_more : (u d : NodeId) (bytes : List ℕ) (r : Record) (n : ℕ) → HasMore r (noised u d bytes r) n
noise_more u d bytes r n = by_test (n == d.0) refl
  where
    heard : Doing
    heard = Did (Heard (clock_of (r.doings d.0) + 1) u bytes)

    by_test : (b : Bool) → (n == d.0) ≡ b →
        (added : List Doing) × (cond b (r.doings d.0 ++ heard ∷ []) (r.doings n) ≡ r.doings n ++ added)
    by_test true e =
        let same : d.0 ≡ n = grind (arith, e) in
        (heard ∷ [], ap (λ m. r.doings m ++ heard ∷ []) same)
    by_test false e = ([], sym (append-nil (r.doings n)))

noise_grows : (u d : NodeId) (bytes : List ℕ) (s : Stage) (full b : Bool) →
    AreGrowing s (cond b [] (cond full (record s { stopped = Some d })
    (record s { made = noised u d bytes s.made }) ∷ []))
noise_grows u d bytes s full true = tt
noise_grows u d bytes s true false = (stays_grown s.made, tt)
noise_grows u d bytes s false false = (grows s.made (noised u d bytes s.made) (noise_more u d bytes s.made), tt)

line_grows : ScriptRoundLaws → (t : Network) (workers : ℕ) (line : Line) (s : Stage) (more : List Stage) →
    LineMakes t workers line s more → AreGrowing s more
line_grows laws t workers (Post c) s more x = subst (AreGrowing s) (sym x) (post_grows t c s (is_stopped s))
line_grows laws t workers (said.Disturb d) s more x = subst (AreGrowing s) (sym x) (line_kept t d s (is_stopped s))
line_grows laws t workers (Noise u d bytes) s more x =
    subst (AreGrowing s) (sym x) (noise_grows u d bytes s (length (log_at s.made d.0) == MOST_EVENTS) (is_stopped s))
line_grows laws t workers (Settle rounds) s more x =
    rounds_grow laws (is_settled t) t workers rounds s more (settles-go t workers rounds s more x)
line_grows laws t workers (Wait rounds) s more x =
    rounds_grow laws is_stopped t workers rounds s more (waits-go t workers rounds s more x)
line_grows laws t workers Show s more x = subst (AreGrowing s) (sym x) tt

both_grow : (s : Stage) (xs ys : List Stage) → AreGrowing s xs → AreGrowing (last_stage_of s xs) ys →
    AreGrowing s (xs ++ ys)
both_grow s [] ys one two = two
both_grow s (x ∷ xs) ys one two = (one.0, both_grow x xs ys one.1 two)

pub scripts_grow : ScriptsGrow
scripts_grow laws p how [] s more text prints = subst (AreGrowing s) (sym prints.0) tt
scripts_grow laws p how (line ∷ lines) s more text prints =
    subst (AreGrowing s) (sym prints.7)
    (both_grow s prints.0 prints.1 (line_grows laws p.topology how.workers line s prints.0 prints.4)
    (scripts_grow laws p how lines (last_stage_of s prints.0) prints.1 prints.3 prints.6))
