-- What is answered where a load is asked for.
use Rattle.std.proofs.{Common.{◌≡◌, ℕ, List, [], ◌++◌, inl, refl}, KnownBytes.Appends-nil}
use Rattle.std.specs.Prelude.{◌⊎◌, Option, None, Some}
use Rattle.ason_base.specs.declared.ids.NodeId.{NodeId}
use Rattle.fleet.specs.Standing.{FleetState}
use Rattle.load_plan.specs.declared.parts.LoadParts.{LoadParts}
use Rattle.table_text.specs.TableText.{stopped_text}
use Rattle.commands.specs.{declared.status.Status.Status, Replies.{Done, EventLimit, Unfinished, WasTold}}
use Rattle.ason_main.specs.{Answers.{HasKeptBegun, IsLoadAnswered}, RunLaws.RunLaws, Loads.{AreLoaded, lines_in_parts, parts_of_load}, Outputs.silent_on}
use Rattle.ason_main.proofs.{OneLoad.{load_cut, load_ended}, PlanRuns.IsFleetNew}

module _ {K : Type 0} (written : K → Option (List ℕ)) (faults : K → ℕ) (l : LoadParts) (old new : K) where
  pub load_told : RunLaws → (f g : FleetState) (text : List ℕ) (s : Status) → IsFleetNew l.plan f →
      AreLoaded l.plan (parts_of_load l) g None text → WasTold written faults old new text Status.Done s →
      IsLoadAnswered written faults l old new (Some g) s
  load_told laws f g text s is x told =
      let ended = load_ended laws l f g text is x in (Done text, (x.more, ended.0, ended.1), told)

  -- the line of the stop comes last
  pub load_stopped : RunLaws → (n : NodeId) (f g : FleetState) (text : List ℕ) (s : Status) → IsFleetNew l.plan f →
      AreLoaded l.plan (parts_of_load l) g (Some n) text →
      WasTold written faults old new (text ++ stopped_text l.plan n) Status.EventLimit s →
      IsLoadAnswered written faults l old new (Some g) s
  load_stopped laws n f g text s is x told =
      let cut = load_cut laws l n f g text is x in (
        EventLimit (text ++ stopped_text l.plan n),
        (n, x.more, record { told = text; cut = cut.0; all = refl }, cut.1),
        told,
      )

-- memory was wanting, and nothing was written
pub load_starved : {K : Type 0} (written : K → Option (List ℕ)) (faults : K → ℕ) (l : LoadParts) (out : K)
    (kept : Option FleetState) →
    (kept ≡ None) ⊎ HasKeptBegun l.plan (silent_on 1) (lines_in_parts (parts_of_load l)) kept [] →
    IsLoadAnswered written faults l out out kept Status.OutOfMemory
load_starved written faults l out kept may =
    (Unfinished [], (refl, may), inl (refl, Appends-nil (written out)))
