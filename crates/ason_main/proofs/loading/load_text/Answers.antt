use Rattle.std.proofs.{Common.{[], ◌∷◌, ◌++◌, List, None, refl, subst, sym}, lemmas.Result.IfErr-weaker}
use Rattle.ason_base.proofs.Results.{on_ok, passed_on}
use Rattle.load_plan.specs.declared.phases.LoadPhase.TheVariants.{Built, Failed, Repaired, Reverted}
use Rattle.plan_reader.specs.{declared.lines.Line.Line, declared.plan.Plan.Plan}
use Rattle.ason_main.specs.Loads.{AreLoaded, LoadPart, StopsLoad, phase_part, settling}
use Rattle.ason_main.proofs.LoadedParts.{last_part, stops_part, stops_stays}
use Rattle.ason_main.proofs.loading.load_text.Goals as goal

abbrev built : Plan → LoadPart
built p = phase_part (settling ++ p.lines) Built

abbrev settled : LoadPart
settled = record { lines = settling; phase = None }

-- the parts with these lines
abbrev with_lines : Plan → List Line → List Line → List Line → List LoadPart
with_lines p failed repaired reverted =
    built p ∷ phase_part failed Failed ∷ phase_part repaired Repaired ∷ phase_part reverted Reverted ∷ settled ∷ []

pub returns-in_err-build-clause-stops : goal.returns-in_err-build-clause-stops
returns-in_err-build-clause-stops g c =
    let l = c.args.load.now in
    let p = l.plan in
    passed_on c.from_residual.result _ _
    (λ e same.
    stops_stays p (built p ∷ [])
    (phase_part l.failed Failed ∷ phase_part l.repaired Repaired ∷ phase_part l.reverted Reverted ∷ settled ∷ [])
    c.build.new.fleet c.build.new.text.items e
    (subst (StopsLoad p (built p ∷ []) c.build.new.fleet c.build.new.text.items) (sym same)
    c.in_err-build.ensures.stops))
    c.from_residual.ensures.1

pub returns-in_err-load_part-clause-stops : goal.returns-in_err-load_part-clause-stops
returns-in_err-load_part-clause-stops g c =
    let l = c.args.load.now in
    let p = l.plan in
    let f = c.load_part.new.fleet in
    let text = c.load_part.new.text.items in
    let parts : List LoadPart = built p ∷ phase_part c.items.result.now Failed ∷ [] in
    passed_on c.from_residual-in_err-load_part.result _ _
    (λ e same.
    subst (λ ls. StopsLoad p (with_lines p ls l.repaired l.reverted) f text e) c.items.ensures
    (stops_stays p parts (phase_part l.repaired Repaired ∷ phase_part l.reverted Reverted ∷ settled ∷ []) f text e
    (subst (StopsLoad p parts f text) (sym same)
    (c.in_err-load_part.ensures.stops (built p ∷ []) c.in_ok-build.ensures.done))))
    c.from_residual-in_err-load_part.ensures.1

pub returns-in_err-load_part-2-clause-stops : goal.returns-in_err-load_part-2-clause-stops
returns-in_err-load_part-2-clause-stops g c =
    let l = c.args.load.now in
    let p = l.plan in
    let f = c.load_part-2.new.fleet in
    let text = c.load_part-2.new.text.items in
    let one : List LoadPart = built p ∷ phase_part c.items.result.now Failed ∷ [] in
    let two : List LoadPart = built p ∷ phase_part c.items.result.now Failed ∷ phase_part c.items-2.result.now Repaired ∷ [] in
    passed_on c.from_residual-in_err-load_part-2.result _ _
    (λ e same.
    subst (λ ls. StopsLoad p (with_lines p ls l.repaired l.reverted) f text e) c.items.ensures
    (subst (λ ls. StopsLoad p (with_lines p c.items.result.now ls l.reverted) f text e) c.items-2.ensures
    (stops_stays p two (phase_part l.reverted Reverted ∷ settled ∷ []) f text e
    (subst (StopsLoad p two f text) (sym same)
    (c.in_err-load_part-2.ensures.stops one
    (c.in_ok-load_part.ensures.done (built p ∷ []) c.in_ok-build.ensures.done))))))
    c.from_residual-in_err-load_part-2.ensures.1

pub returns-in_err-load_part-3-clause-stops : goal.returns-in_err-load_part-3-clause-stops
returns-in_err-load_part-3-clause-stops g c =
    let l = c.args.load.now in
    let p = l.plan in
    let f = c.load_part-3.new.fleet in
    let text = c.load_part-3.new.text.items in
    let one : List LoadPart = built p ∷ phase_part c.items.result.now Failed ∷ [] in
    let two : List LoadPart = built p ∷ phase_part c.items.result.now Failed ∷ phase_part c.items-2.result.now Repaired ∷ [] in
    let three : List LoadPart =
    built p ∷ phase_part c.items.result.now Failed ∷ phase_part c.items-2.result.now Repaired
    ∷ phase_part c.items-3.result.now Reverted ∷ [] in
    passed_on c.from_residual-in_err-load_part-3.result _ _
    (λ e same.
    subst (λ ls. StopsLoad p (with_lines p ls l.repaired l.reverted) f text e) c.items.ensures
    (subst (λ ls. StopsLoad p (with_lines p c.items.result.now ls l.reverted) f text e) c.items-2.ensures
    (subst (λ ls. StopsLoad p (with_lines p c.items.result.now c.items-2.result.now ls) f text e) c.items-3.ensures
    (stops_stays p three (settled ∷ []) f text e
    (subst (StopsLoad p three f text) (sym same)
    (c.in_err-load_part-3.ensures.stops two
    (c.in_ok-load_part-2.ensures.done one
    (c.in_ok-load_part.ensures.done (built p ∷ []) c.in_ok-build.ensures.done))))))))
    c.from_residual-in_err-load_part-3.ensures.1

pub returns-clause-done : goal.returns-clause-done
returns-clause-done g c =
    let l = c.args.load.now in
    let p = l.plan in
    let a = c.load_part-3.new.fleet in
    let f = c.do_lines.new.fleet in
    let text = c.load_part-3.new.text.items in
    let one : List LoadPart = built p ∷ phase_part c.items.result.now Failed ∷ [] in
    let two : List LoadPart = built p ∷ phase_part c.items.result.now Failed ∷ phase_part c.items-2.result.now Repaired ∷ [] in
    let three : List LoadPart =
    built p ∷ phase_part c.items.result.now Failed ∷ phase_part c.items-2.result.now Repaired
    ∷ phase_part c.items-3.result.now Reverted ∷ [] in
    on_ok c.do_lines.result _ _
    (λ does.
    subst (λ ls. AreLoaded p (with_lines p ls l.repaired l.reverted) f None text) c.items.ensures
    (subst (λ ls. AreLoaded p (with_lines p c.items.result.now ls l.reverted) f None text) c.items-2.ensures
    (subst (λ ls. AreLoaded p (with_lines p c.items.result.now c.items-2.result.now ls) f None text) c.items-3.ensures
    (last_part p three settled a f text
    (c.in_ok-load_part-3.ensures.done two
    (c.in_ok-load_part-2.ensures.done one
    (c.in_ok-load_part.ensures.done (built p ∷ []) c.in_ok-build.ensures.done)))
    (tt, tt) refl does))))
    c.do_lines.ensures.done

pub returns-clause-stops : goal.returns-clause-stops
returns-clause-stops g c =
    let l = c.args.load.now in
    let p = l.plan in
    let a = c.load_part-3.new.fleet in
    let f = c.do_lines.new.fleet in
    let text = c.load_part-3.new.text.items in
    let one : List LoadPart = built p ∷ phase_part c.items.result.now Failed ∷ [] in
    let two : List LoadPart = built p ∷ phase_part c.items.result.now Failed ∷ phase_part c.items-2.result.now Repaired ∷ [] in
    let three : List LoadPart =
    built p ∷ phase_part c.items.result.now Failed ∷ phase_part c.items-2.result.now Repaired
    ∷ phase_part c.items-3.result.now Reverted ∷ [] in
    IfErr-weaker c.do_lines.result _ _
    (λ e stops.
    subst (λ ls. StopsLoad p (with_lines p ls l.repaired l.reverted) f text e) c.items.ensures
    (subst (λ ls. StopsLoad p (with_lines p c.items.result.now ls l.reverted) f text e) c.items-2.ensures
    (subst (λ ls. StopsLoad p (with_lines p c.items.result.now c.items-2.result.now ls) f text e) c.items-3.ensures
    (stops_part p three settled a f text
    (c.in_ok-load_part-3.ensures.done two
    (c.in_ok-load_part-2.ensures.done one
    (c.in_ok-load_part.ensures.done (built p ∷ []) c.in_ok-build.ensures.done)))
    (tt, tt) e stops))))
    c.do_lines.ensures.stops
