-- The one run of a generated plan.
use Rattle.std.proofs.Common.{◌≡◌, ◌∙◌, ℕ, List, [], ◌∷◌, ◌++◌, refl, sym, ap, subst}
use Rattle.std.specs.{Prelude.{Option, None, Some}, List.AllByRecursion}
use Rattle.ason_base.specs.declared.ids.NodeId.{NodeId}
use Rattle.fleet.specs.Standing.{FleetState}
use Rattle.load_plan.specs.{PhaseTexts.phase_text, declared.parts.LoadParts.LoadParts, declared.phases.LoadPhase.LoadPhase}
use Rattle.plan_reader.specs.declared.plan.Plan.{Plan}
use Rattle.world_rules.specs.Images.{image}
use Rattle.script_rules.specs.{ScriptLaws.AreSame, Lawful.IsLawfulRecord, Outputs.{Prints, UnlessStopped}, Stages.{IsFull, Stage, last_stage_of, new_stage, world_at}}
use Rattle.script_rules.proofs.{Alone.{all_from, function_end, one_list}, Follows.lines_follow, Lawful.lawful_table, OneTable.one_table, Stops.stops_full}
use Rattle.ason_main.specs.{RunLaws.RunLaws, Loads.{AreLoaded, IsLoadCut, IsLoaded, IsTheLoad, IsTheLoadCut, LoadPart, PartsPrint, PhasePrints, ShowsPhase, lines_in_parts, load_end, parts_of_load}, Outputs.{IsFleetKept, IsOneRun, end_stage, silent_on}}
use Rattle.ason_main.proofs.PlanRuns.{IsFleetNew, kept, not_both, one_run, same_end, same_node}

-- All lines

-- the lines of all parts, one after the other
pub whole_lines : (p : Plan) (parts : List LoadPart) (s : Stage) (more : List Stage) (text : List ℕ) →
    PartsPrint p parts s more text → Prints p (silent_on 1) (lines_in_parts parts) s more []
whole_lines p [] s more text prints = (prints.0, refl)
whole_lines p (x ∷ parts) s more text prints =
    subst (λ ss. Prints p (silent_on 1) (x.lines ++ lines_in_parts parts) s ss []) (sym prints.7)
    (lines_follow p (silent_on 1) x.lines (lines_in_parts parts) s prints.0 prints.1 [] [] prints.4
    (whole_lines p parts (last_stage_of s prints.0) prints.1 prints.3 prints.6))

-- where the function leads
pub load_ends : (l : LoadParts) (more : List Stage) (text : List ℕ) (stop : Option NodeId) →
    PartsPrint l.plan (parts_of_load l) new_stage more text → (end_stage more).stopped ≡ stop →
    (load_end l).stopped ≡ stop
load_ends l more text stop prints stopped =
    sym (ap (λ (s : Stage). s.stopped) (function_end l.plan (silent_on 1) (lines_in_parts (parts_of_load l)) new_stage more []
    refl (whole_lines l.plan (parts_of_load l) new_stage more text prints))) ∙ stopped

-- One text

abbrev AreLawful : Plan → List Stage → Type 0
AreLawful p ss = AllByRecursion (λ (z : Stage). IsLawfulRecord p.topology z.made) ss

first_lawful : (p : Plan) (s : Stage) (xs ys : List Stage) → AreLawful p (s ∷ (xs ++ ys)) → AreLawful p (s ∷ xs)
first_lawful p s [] ys all = (all.0, tt)
first_lawful p s (x ∷ xs) ys all = (all.0, first_lawful p x xs ys all.1)

one_phase : (p : Plan) (phase : Option LoadPhase) (s : Stage) (a b : List ℕ) → IsLawfulRecord p.topology s.made →
    PhasePrints p phase s a → PhasePrints p phase s b → a ≡ b
one_phase p None s a b lawful this that = this ∙ sym that
one_phase p (Some phase) s a b lawful this that = go s.stopped this that
  where
    go : (o : Option NodeId) → UnlessStopped o (ShowsPhase p phase (world_at p.topology s) a) a →
        UnlessStopped o (ShowsPhase p phase (world_at p.topology s) b) b → a ≡ b
    go None first second =
        let table = lawful_table p.topology s.made lawful in
        let rows : first.0 ≡ second.0 =
        one_table p.topology (image (world_at p.topology s)) first.0 second.0 table.legs table.calls first.1 second.1 in
        first.2 ∙ ((λ i. phase_text phase ((rows i).calls)) ∙ sym second.2)
    go (Some n) first second = first ∙ sym second

one_parts : (p : Plan) (parts : List LoadPart) (s : Stage) (xs ys : List Stage) (a b : List ℕ) → AreLawful p (s ∷ xs) →
    PartsPrint p parts s xs a → PartsPrint p parts s ys b → AreSame xs ys a b
one_parts p [] s xs ys a b all this that =
    record { stages = this.0 ∙ sym that.0; text = this.1 ∙ sym that.1 }
one_parts p (x ∷ parts) s xs ys a b all this that =
    let both = subst (λ zs. AreLawful p (s ∷ zs)) this.7 all in
    let first : this.0 ≡ that.0 =
    (one_list p (silent_on 1) x.lines s this.0 that.0 [] [] refl (first_lawful p s this.0 this.1 both) this.4
    that.4).stages in
    let lawful : AreLawful p (last_stage_of s this.0 ∷ this.1) =
    all_from (λ (z : Stage). IsLawfulRecord p.topology z.made) s this.0 this.1 both in
    let here : this.2 ≡ that.2 =
    one_phase p x.phase (last_stage_of s this.0) this.2 that.2 lawful.0 this.5
    (subst (λ zs. PhasePrints p x.phase (last_stage_of s zs) that.2) (sym first) that.5) in
    let rest : AreSame this.1 that.1 this.3 that.3 =
    one_parts p parts (last_stage_of s this.0) this.1 that.1 this.3 that.3 lawful this.6
    (subst (λ zs. PartsPrint p parts (last_stage_of s zs) that.1 that.3) (sym first) that.6) in
    record {
      stages = this.7 ∙ ((λ i. first i ++ rest.stages i) ∙ sym that.7);
      text = this.8 ∙ ((λ i. here i ++ rest.text i) ∙ sym that.8);
    }

-- One run

same_load : (l : LoadParts) (more others : List Stage) (text other : List ℕ) → IsOneRun l.plan others →
    PartsPrint l.plan (parts_of_load l) new_stage others other →
    PartsPrint l.plan (parts_of_load l) new_stage more text →
    AreSame others more other text
same_load l more others text other run that this =
    one_parts l.plan (parts_of_load l) new_stage others more other text run.laws that this

the_load : (l : LoadParts) (more : List Stage) (text : List ℕ) → IsLoaded l more text → IsTheLoad l more text
the_load l more text is = record {
  is = is;
  only = λ others other that. same_load l more others text other that.one_run that.printed is.printed;
  never_stopped = λ n others other that.
      not_both (end_stage more).stopped n is.ended
      (sym (same_end (same_load l more others text other that.one_run that.printed is.printed)) ∙ that.stopped);
}

the_cut : (l : LoadParts) (n : NodeId) (more : List Stage) (text : List ℕ) → IsLoadCut l n more text →
    IsTheLoadCut l n more text
the_cut l n more text is = record {
  is = is;
  only = λ m others other that.
      let same = same_load l more others text other that.one_run that.printed is.printed in
      (same_node (end_stage others).stopped m n that.stopped (same_end same ∙ is.stopped), same);
  never_ended = λ others other that.
      not_both (end_stage others).stopped n that.ended
      (same_end (same_load l more others text other that.one_run that.printed is.printed) ∙ is.stopped);
}

loaded_run : RunLaws → (l : LoadParts) (f g : FleetState) (stop : Option NodeId) (text : List ℕ) → IsFleetNew l.plan f →
    (x : AreLoaded l.plan (parts_of_load l) g stop text) → IsOneRun l.plan x.more
loaded_run laws l f g stop text new x =
    one_run laws l.plan (silent_on 1) f (lines_in_parts (parts_of_load l)) x.more [] new
    (whole_lines l.plan (parts_of_load l) new_stage x.more text x.printed) x.led.stood

-- the generated plan's run came to its end, and the fleet made it
pub load_ended : RunLaws → (l : LoadParts) (f g : FleetState) (text : List ℕ) → IsFleetNew l.plan f →
    (x : AreLoaded l.plan (parts_of_load l) g None text) →
    IsTheLoad l x.more text × IsFleetKept l.plan g (end_stage x.more)
load_ended laws l f g text new x = (
  the_load l x.more text
      (record { one_run = loaded_run laws l f g None text new x; ended = x.led.stopped; printed = x.printed }),
  kept laws l.plan g None x.more x.led,
)

-- or it is stopped
pub load_cut : RunLaws → (l : LoadParts) (n : NodeId) (f g : FleetState) (text : List ℕ) → IsFleetNew l.plan f →
    (x : AreLoaded l.plan (parts_of_load l) g (Some n) text) →
    IsTheLoadCut l n x.more text × IsFleetKept l.plan g (end_stage x.more)
load_cut laws l n f g text new x = (
  the_cut l n x.more text (record {
    one_run = loaded_run laws l f g (Some n) text new x;
    stopped = x.led.stopped;
    full = subst (IsFull (end_stage x.more).made) x.led.stopped
        (stops_full l.plan (silent_on 1) (lines_in_parts (parts_of_load l)) new_stage x.more [] tt
        (whole_lines l.plan (parts_of_load l) new_stage x.more text x.printed));
    printed = x.printed;
  }),
  kept laws l.plan g (Some n) x.more x.led,
)
