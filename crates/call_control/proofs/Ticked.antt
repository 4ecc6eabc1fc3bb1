-- What a tick does to the calls up to a place.
use Rattle.std.proofs.{Common.{◌≡◌, ◌+◌, ◌<◌, ℕ, List, [], ◌∷◌, ◌++◌, get_or, length, take, refl, sym, ap, ◌∙◌, append_assoc}, lemmas.List.take_more}
use Rattle.std.specs.Prelude.{Option, Some, None}
use Rattle.ason_base.specs.{declared.tables.CallRec.CallRec, declared.tables.Leg.Leg}
use Rattle.mesh_rules.specs.{Changes.{Answer, followed_by, later, nothing}, Waits.{all_ticked, call_ticked}}
use Rattle.mesh_rules.proofs.AnswerParts.{then-nothing}
use Rattle.mesh_nodes.proofs.Followed.{nothing-then}

-- One answer after the other

later-later : {X : Type 0} (a b c : Option X) → later (later a b) c ≡ later a (later b c)
later-later a b None = refl
later-later a b (Some x) = refl

pub then-then : (a b c : Answer) → followed_by (followed_by a b) c ≡ followed_by a (followed_by b c)
then-then a b c = λ i. record {
  legs = append_assoc a.legs b.legs c.legs i;
  calls = append_assoc a.calls b.calls c.calls i;
  numbers = later-later a.numbers b.numbers c.numbers i;
  down = later-later a.down b.down c.down i;
  rows = append_assoc a.rows b.rows c.rows i;
  sent = append_assoc a.sent b.sent c.sent i;
}

-- Ticks

-- where there is no wait, a tick does nothing
pub none-wait : (legs : List Leg) (calls : List CallRec) → all_ticked 0 legs calls ≡ nothing
none-wait legs [] = refl
none-wait legs (c ∷ calls) = ap (followed_by nothing) (none-wait legs calls)

module _ (wait : ℕ) (legs : List Leg) where
  ticked-last : (calls : List CallRec) (c : CallRec) →
      all_ticked wait legs (calls ++ c ∷ []) ≡ followed_by (all_ticked wait legs calls) (call_ticked wait legs c)
  ticked-last [] c = then-nothing (call_ticked wait legs c) ∙ sym (nothing-then (call_ticked wait legs c))
  ticked-last (d ∷ calls) c =
      ap (followed_by (call_ticked wait legs d)) (ticked-last calls c)
      ∙ sym (then-then (call_ticked wait legs d) (all_ticked wait legs calls) (call_ticked wait legs c))

  -- a call more
  pub ticked-more : (calls : List CallRec) (i : ℕ) (c : CallRec) → i < length calls → get_or calls i c ≡ c →
      all_ticked wait legs (take (i + 1) calls)
      ≡ followed_by (all_ticked wait legs (take i calls)) (call_ticked wait legs c)
  ticked-more calls i c within is =
      ap (all_ticked wait legs) (take_more calls i c within ∙ ap (λ d. take i calls ++ d ∷ []) is)
      ∙ ticked-last (take i calls) c
