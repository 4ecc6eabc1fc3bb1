-- With one worker a script makes one list of stages and prints one text.
use Rattle.std.proofs.Common.{◌≡◌, ℕ, zero, suc, Bool, true, false, cond, List, [], ◌∷◌, ◌++◌, refl, ap, sym, subst, ◌∙◌}
use Rattle.std.specs.{Prelude.{Option, None, Some}, List.AllByRecursion}
use Rattle.ason_base.specs.{declared.calls.TableRows.TableRows, declared.commands.Disturb.Disturb, declared.ids.NodeId.NodeId, Network.Network}
use Rattle.ason_base.proofs.Bools.{not-both}
use Rattle.world_rules.specs.{Images.image, Worlds.World}
use Rattle.round_rules.specs.{OneWorker.one_round, Records.Record}
use Rattle.plan_reader.specs.{declared.lines.Line.Line, declared.lines.Line.TheVariants.{Noise, Post, Settle, Wait, Show}, declared.plan.Plan.Plan}
use Rattle.plan_reader.specs.declared.lines.Line.TheVariants as said
use Rattle.table_text.specs.TableText.{table_text}
use Rattle.script_rules.specs.{ScriptLaws.{AreSame, OneWorkerIsAFunction, OneWorkerIsAlone}, Lawful.IsLawfulRecord, OneWorker.{after_round, line_end, lines_end, round_end, settle_end, wait_end}, Outputs.{LinePrints, Prints, Shows, UnlessStopped}, Stages.{ComesTo, IsNextRound, LineMakes, Stage, is_settled, is_stopped, last_stage_of, with_line, with_noise, with_post, world_at}}
use Rattle.script_rules.proofs.{Follows.last_append, Lawful.{HasOneTable, lawful_table}, OneTable.one_table, Rounds.{GoesRounds, settles-go, waits-go}}

-- The next round

to_end : (t : Network) (lines : List Disturb) (workers : ℕ) (before after : Record) (o : Option NodeId) →
    workers ≡ 1 → ComesTo t lines workers before after o →
    one_round t lines before ≡ record { made = after; stopped = o }
to_end t lines workers before after None one comes = comes.one one
to_end t lines workers before after (Some n) one comes = comes.one one

pub next_is : (t : Network) (workers : ℕ) (s a : Stage) → workers ≡ 1 → IsNextRound t workers s a → round_end t s ≡ a
next_is t workers s a one next =
    ap (after_round s) (to_end t s.lines workers s.made a.made a.stopped one next.comes)
    ∙ λ i. record { made = a.made; lines = sym next.lines i; stopped = a.stopped }

-- Rounds

rounds_alone : (over : Stage → Bool) (t : Network) (workers rounds : ℕ) (s : Stage) (xs ys : List Stage) →
    workers ≡ 1 → GoesRounds over t workers rounds s xs → GoesRounds over t workers rounds s ys → xs ≡ ys
rounds_alone over t workers zero s [] [] one x y = refl
rounds_alone over t workers zero s (a ∷ xs) ys one x y = absurd x
rounds_alone over t workers zero s [] (b ∷ ys) one x y = absurd y
rounds_alone over t workers (suc rounds) s [] [] one x y = refl
rounds_alone over t workers (suc rounds) s [] (b ∷ ys) one x y = absurd (not-both (over s) x y.0)
rounds_alone over t workers (suc rounds) s (a ∷ xs) [] one x y = absurd (not-both (over s) y x.0)
rounds_alone over t workers (suc rounds) s (a ∷ xs) (b ∷ ys) one x y =
    let same : a ≡ b = sym (next_is t workers s a one x.1) ∙ next_is t workers s b one y.1 in
    let others : xs ≡ ys =
    rounds_alone over t workers rounds b xs ys one (subst (λ z. GoesRounds over t workers rounds z xs) same x.2) y.2 in
    λ i. same i ∷ others i

-- where they lead is where the function leads
rounds_end : (over : Stage → Bool) (end : ℕ → Stage → Stage) (t : Network) (workers : ℕ) →
    ((s : Stage) → end 0 s ≡ s) →
    ((rounds : ℕ) (s : Stage) → end (suc rounds) s ≡ cond (over s) s (end rounds (round_end t s))) →
    (rounds : ℕ) (s : Stage) (more : List Stage) → workers ≡ 1 → GoesRounds over t workers rounds s more →
    last_stage_of s more ≡ end rounds s
rounds_end over end t workers none next zero s [] one x = sym (none s)
rounds_end over end t workers none next zero s (a ∷ more) one x = absurd x
rounds_end over end t workers none next (suc rounds) s [] one x =
    sym (next rounds s ∙ ap (λ b. cond b s (end rounds (round_end t s))) x)
rounds_end over end t workers none next (suc rounds) s (a ∷ more) one x =
    rounds_end over end t workers none next rounds a more one x.2
    ∙ (ap (end rounds) (sym (next_is t workers s a one x.1))
    ∙ sym (next rounds s ∙ ap (λ b. cond b s (end rounds (round_end t s))) x.0))

-- Lines

line_alone : (t : Network) (workers : ℕ) (line : Line) (s : Stage) (xs ys : List Stage) → workers ≡ 1 →
    LineMakes t workers line s xs → LineMakes t workers line s ys → xs ≡ ys
line_alone t workers (Post c) s xs ys one x y = x ∙ sym y
line_alone t workers (said.Disturb d) s xs ys one x y = x ∙ sym y
line_alone t workers (Noise u d bytes) s xs ys one x y = x ∙ sym y
line_alone t workers (Settle rounds) s xs ys one x y =
    rounds_alone (is_settled t) t workers rounds s xs ys one (settles-go t workers rounds s xs x)
    (settles-go t workers rounds s ys y)
line_alone t workers (Wait rounds) s xs ys one x y =
    rounds_alone is_stopped t workers rounds s xs ys one (waits-go t workers rounds s xs x)
    (waits-go t workers rounds s ys y)
line_alone t workers Show s xs ys one x y = x ∙ sym y

unless_ends : (s a : Stage) (b : Bool) → last_stage_of s (cond b [] (a ∷ [])) ≡ cond b s a
unless_ends s a true = refl
unless_ends s a false = refl

line_ends : (t : Network) (workers : ℕ) (line : Line) (s : Stage) (more : List Stage) → workers ≡ 1 →
    LineMakes t workers line s more → last_stage_of s more ≡ line_end t s line
line_ends t workers (Post c) s more one x = ap (last_stage_of s) x ∙ unless_ends s (with_post t c s) (is_stopped s)
line_ends t workers (said.Disturb d) s more one x = ap (last_stage_of s) x
    ∙ unless_ends s (with_line t d s) (is_stopped s)
line_ends t workers (Noise u d bytes) s more one x =
    ap (last_stage_of s) x ∙ unless_ends s (with_noise u d bytes s) (is_stopped s)
line_ends t workers (Settle rounds) s more one x =
    rounds_end (is_settled t) (settle_end t) t workers (λ s. refl) (λ k s. refl) rounds s more one
    (settles-go t workers rounds s more x)
line_ends t workers (Wait rounds) s more one x =
    rounds_end is_stopped (wait_end t) t workers (λ s. refl) (λ k s. refl) rounds s more one
    (waits-go t workers rounds s more x)
line_ends t workers Show s more one x = ap (last_stage_of s) x

pub function_end : OneWorkerIsAFunction
function_end p how [] s more text one prints = ap (last_stage_of s) prints.0
function_end p how (line ∷ lines) s more text one prints =
    ap (last_stage_of s) prints.7
    ∙ (last_append s prints.0 prints.1
    ∙ (function_end p how lines (last_stage_of s prints.0) prints.1 prints.3 one prints.6
    ∙ ap (lines_end p.topology lines) (line_ends p.topology how.workers line s prints.0 one prints.4)))

-- Texts

one_show : (p : Plan) (line : Line) (w : World) (a b : List ℕ) → HasOneTable (image w) →
    Shows p line w a → Shows p line w b → a ≡ b
one_show p (Post c) w a b one this that = this ∙ sym that
one_show p (said.Disturb d) w a b one this that = this ∙ sym that
one_show p (Noise u d bytes) w a b one this that = this ∙ sym that
one_show p (Settle r) w a b one this that = this.line ∙ sym that.line
one_show p (Wait r) w a b one this that = this ∙ sym that
one_show p Show w a b one this that =
    let same : this.0 ≡ that.0 =
    one_table p.topology (image w) this.0 that.0 one.legs one.calls this.1 that.1 in
    this.2 ∙ (ap (λ (rows : TableRows). table_text p rows) same ∙ sym that.2)

one_line : (tables : Bool) (p : Plan) (line : Line) (s : Stage) (a b : List ℕ) → IsLawfulRecord p.topology s.made →
    LinePrints tables p line s a → LinePrints tables p line s b → a ≡ b
one_line false p line s a b is this that = this ∙ sym that
one_line true p line s a b is this that = go s.stopped this that
  where
    go : (o : Option NodeId) → UnlessStopped o (Shows p line (world_at p.topology s) a) a →
        UnlessStopped o (Shows p line (world_at p.topology s) b) b → a ≡ b
    go None shown seen =
        one_show p line (world_at p.topology s) a b (lawful_table p.topology s.made is) shown seen
    go (Some n) none nothing = none ∙ sym nothing

-- Lists

-- of the last of some first stages on
pub all_from : (P : Stage → Type 0) (s : Stage) (xs ys : List Stage) → AllByRecursion P (s ∷ (xs ++ ys)) →
    AllByRecursion P (last_stage_of s xs ∷ ys)
all_from P s [] ys all = all
all_from P s (x ∷ xs) ys all = all_from P x xs ys all.1

pub one_list : OneWorkerIsAlone
one_list p how [] s xs ys a b one all this that =
    record { stages = this.0 ∙ sym that.0; text = this.1 ∙ sym that.1 }
one_list p how (line ∷ lines) s xs ys a b one all this that =
    let first : this.0 ≡ that.0 = line_alone p.topology how.workers line s this.0 that.0 one this.4 that.4 in
    let lawful : AllByRecursion (λ (z : Stage). IsLawfulRecord p.topology z.made) (last_stage_of s this.0 ∷ this.1) =
    all_from (λ (z : Stage). IsLawfulRecord p.topology z.made) s this.0 this.1
    (subst (λ zs. AllByRecursion (λ (z : Stage). IsLawfulRecord p.topology z.made) (s ∷ zs)) this.7 all) in
    let here : this.2 ≡ that.2 =
    one_line how.tables p line (last_stage_of s this.0) this.2 that.2 lawful.0 this.5
    (subst (λ zs. LinePrints how.tables p line (last_stage_of s zs) that.2) (sym first) that.5) in
    let rest : AreSame this.1 that.1 this.3 that.3 =
    one_list p how lines (last_stage_of s this.0) this.1 that.1 this.3 that.3 one lawful this.6
    (subst (λ zs. Prints p how lines (last_stage_of s zs) that.1 that.3) (sym first) that.6) in
    record {
      stages = this.7 ∙ ((λ i. first i ++ rest.stages i) ∙ sym that.7);
      text = this.8 ∙ ((λ i. here i ++ rest.text i) ∙ sym that.8);
    }
