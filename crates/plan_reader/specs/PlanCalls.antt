-- The calls that a script sets up, each with its ingress, in order of number.
use Rattle.std.specs.{Prelude.{◌≡◌, ℕ, ◌≤◌, cond, String, length, List, [], ◌∷◌, ◌++◌, Option, Some, None, option_map, slice_get}, BTreeMap.{BTreeMap, get_by_text}, Global.Global}
use Rattle.ason_base.specs.{declared.ids.NodeId.NodeId, declared.commands.Command.Command, declared.commands.Command.TheVariants.{Setup, Release, Protect, Retry, Revert, Fail, Repair}, declared.limits.TheConstants.MOST_CALLS}
use Rattle.plan_reader.specs.{Names.{place_of, same_text}, PlanTexts.word_at}

pub record CallList : Type 0 where
  pub names : List (List ℕ)
  pub ingresses : List NodeId

abbrev pub no_calls : CallList
no_calls = record { names = []; ingresses = [] }

abbrev pub with_named_call : CallList → List ℕ → NodeId → CallList
with_named_call calls name from = record { names = calls.names ++ name ∷ []; ingresses = calls.ingresses ++ from ∷ [] }

abbrev pub call_at : CallList → Option ℕ → Option (ℕ × NodeId)
call_at calls None = None
call_at calls (Some k) = option_map (λ from. (k, from)) (slice_get calls.ingresses k)

-- the number and the ingress of the call of this name
abbrev pub call_named : CallList → List ℕ → Option (ℕ × NodeId)
call_named calls name = call_at calls (place_of calls.names name)

-- the calls after the command of a line of these words, of which the second is the call's name
abbrev pub calls_with : CallList → List (List ℕ) → Command → CallList
calls_with calls ws (Setup n from to protected both via backup) = with_named_call calls (word_at ws 1) from
calls_with calls ws (Release n from) = calls
calls_with calls ws (Protect n from) = calls
calls_with calls ws (Retry n from) = calls
calls_with calls ws (Revert n from) = calls
calls_with calls ws (Fail g) = calls
calls_with calls ws (Repair g) = calls

-- the map has the place of each name
abbrev pub ArePlacesOfNames : BTreeMap (String Global) ℕ → List (List ℕ) → Type 0
ArePlacesOfNames places names = (bs : List ℕ) → get_by_text places bs ≡ place_of names bs

-- the map has this place of the name now, and that of each other text as before
abbrev pub PutsPlace : BTreeMap (String Global) ℕ → BTreeMap (String Global) ℕ → List ℕ → ℕ → Type 0
PutsPlace old new name place =
    (bs : List ℕ) → get_by_text new bs ≡ cond (same_text name bs) (Some place) (get_by_text old bs)

-- the names are few, and the map has their places
abbrev pub AreNamesFound : BTreeMap (String Global) ℕ → List (List ℕ) → Type 0
AreNamesFound places names = (length names ≤ MOST_CALLS) × ArePlacesOfNames places names
