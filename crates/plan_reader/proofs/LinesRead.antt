-- What a line without fault adds to the script, and whose a fault is.
use Rattle.std.proofs.Common.{◌≡◌, ◌++◌, ℕ, List, [], ◌∷◌, Result, Ok, Err, codes, refl, sym, subst, Bool}
use Rattle.toml.specs.Data.{Data}
use Rattle.ason_base.specs.{Network.Network, declared.network.LinkSpec.LinkSpec}
use Rattle.plan_reader.specs.{Entries.{FailsAs, FailsBy, FailsWith}, PlanTables.{NodeList, elements_at, ticks_of}, Plans.{IsPlanOver, IsScriptOf, network_of}, declared.faults.PlanError.PlanError, PlanScript.{AddsWords, IsRead, calls_with_line, script_line}, declared.faults.EntryError.EntryError, declared.faults.PlanKind.PlanKind, declared.lines.Line.Line, declared.script.Script.Script}

-- the words of a line without fault
pub words_read :
    (w : Bool) (t : Network) (names : List (List ℕ)) (before after : Script) (ws : List (List ℕ)) (line : Line)
    → script_line w t names before.calls ws ≡ Ok line → IsRead (Ok line) (Ok line)
    → after.calls ≡ calls_with_line before.calls ws line → after.lines ≡ before.lines ++ line ∷ []
    → AddsWords w t names before ws (Ok after)
words_read w t names before after ws line e is calls lines = (
  Ok line,
  subst (λ (r : Result Line PlanKind). IsRead r (Ok line)) (sym e) is,
  (λ i. Ok (record { calls = calls i; lines = lines i })),
)

-- a fault of the line
pub line_faulty :
    {A : Type 0} (w : Bool) (t : Network) (names : List (List ℕ)) (before : Script) (ws : List (List ℕ))
    (x : Result A EntryError)
    → FailsBy x (script_line w t names before.calls ws) → FailsWith x (λ k. AddsWords w t names before ws (Err k))
line_faulty w t names before ws (Ok a) h = h
line_faulty w t names before ws (Err e) h =
    λ k same. (Err k, subst (λ (r : Result Line PlanKind). IsRead r (Err k)) (sym (h k same)) refl, refl)

-- noise that spells a frame
pub noise_faulty :
    {A : Type 0} (w : Bool) (t : Network) (names : List (List ℕ)) (before : Script) (ws : List (List ℕ)) (line : Line)
    (x : Result A EntryError) → script_line w t names before.calls ws ≡ Ok line
    → FailsWith x (λ k. IsRead (Ok line) (Err k)) → FailsWith x (λ k. AddsWords w t names before ws (Err k))
noise_faulty w t names before ws line (Ok a) e h = h
noise_faulty w t names before ws line (Err error) e h =
    λ k same. (Err k, subst (λ (r : Result Line PlanKind). IsRead r (Err k)) (sym e) (h k same), refl)

-- a script's fault is the plan's
pub script_faulty :
    {A : Type 0} (w : Bool) (d : Data) (known : NodeList) (links : List LinkSpec) (t : Network) (names : List (List ℕ))
    (ds : List Data) (x : Result A PlanError) → t ≡ network_of (ticks_of d) known links → names ≡ known.names
    → ds ≡ elements_at (codes "script") d → FailsAs x (λ f. IsScriptOf w t names ds (Err f))
    → FailsAs x (λ f. IsPlanOver w d known links (Err f))
script_faulty w d known links t names ds (Ok a) is_t is_names is_ds h = h
script_faulty w d known links t names ds (Err e) is_t is_names is_ds h =
    λ f same. (
      Err f,
      subst (λ (u : Network). IsScriptOf w u known.names (elements_at (codes "script") d) (Err f)) is_t
          (subst (λ (ns : List (List ℕ)). IsScriptOf w t ns (elements_at (codes "script") d) (Err f)) is_names
          (subst (λ (es : List Data). IsScriptOf w t names es (Err f)) is_ds (h f same))),
      refl,
    )
