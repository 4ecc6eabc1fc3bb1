-- How the parts of a turn end: with what they do, or at the node's limit.
use Rattle.std.proofs.Common.{◌≡◌, ℕ, suc, Bool, true, false, cond, List, [], ◌∷◌, ◌++◌, length, refl, sym, ap, ◌∙◌, subst, append_assoc, append-nil}
use Rattle.ason_base.specs.{declared.ids.NodeId.NodeId, Network.Network}
use Rattle.world_merge.specs.{Deeds.{Deed, Handled, Heard, Posted, Ticked, Took}, Histories.at, Logs.log_of}
use Rattle.round_rules.specs.{Doings.{Doing, Left, Waiting, deeds_in}, Limits.{Progress, going, halted_by, if_able, log_line_count}, Entered.able, Ends.EndsAs, PartLimits.IsAtLimit, Phases.Phase, States.{IsStationOf, StationState}}
use Rattle.round_rules.proofs.Parting.{leave-of}

-- The limit

lines_same : (n m : NodeId) (ds : List Deed) → length (log_of n ds) ≡ length (log_of m ds)
lines_same n m [] = refl
lines_same n m (Ticked s ∷ ds) = ap suc (lines_same n m ds)
lines_same n m (Handled s ∷ ds) = ap suc (lines_same n m ds)
lines_same n m (Took s u k x ∷ ds) = ap suc (lines_same n m ds)
lines_same n m (Heard s u bytes ∷ ds) = ap suc (lines_same n m ds)
lines_same n m (Posted s c ∷ ds) = lines_same n m ds

module _ (t : Network) (n : NodeId) (ds : List Doing) (old : StationState) (is : IsStationOf t n ds old) where
  -- the log has as many lines as its node's deeds
  pub lines-of : log_line_count ds ≡ length old.log
  lines-of = lines_same (at 0) n (deeds_in ds) ∙ ap length (sym is.stands.sound.log)

  able_same : (s k : ℕ) → s ≡ k → able (log_line_count ds) s ≡ able (length old.log) k
  able_same s k e = λ i. able (lines-of i) (e i)

  -- an input is taken
  pub able-is : (w : Waiting) (s k : ℕ) (next : List Doing → List Doing) → s ≡ k → able (length old.log) k ≡ true →
      if_able w s next ds ≡ going (next ds)
  able-is w s k next e on = ap (λ b. cond b (going (next ds)) (halted_by w ds)) (able_same s k e ∙ on)

  -- an input is left
  pub full-is : (w : Waiting) (s k : ℕ) (next : List Doing → List Doing) → s ≡ k → able (length old.log) k ≡ false →
      if_able w s next ds ≡ halted_by w ds
  full-is w s k next e full = ap (λ b. cond b (going (next ds)) (halted_by w ds)) (able_same s k e ∙ full)

  pub halted-ends : (w : Waiting) → IsAtLimit old → EndsAs t n ds true (halted_by w ds) old
  halted-ends w limit = record {
    added = Left w ∷ [];
    all = refl;
    stands = leave-of t n ds old w is;
    halts = refl;
    limit = λ h. limit;
  }

  -- nothing is done
  pub nothing-ends : EndsAs t n ds false (going ds) old
  nothing-ends = record {
    added = [];
    all = sym (append-nil ds);
    stands = is;
    halts = refl;
    limit = λ h. absurd (cc (h));
  }

-- what was done is so
pub going-ends : (t : Network) (n : NodeId) (ds more : List Doing) (new : StationState) →
    IsStationOf t n (ds ++ more) new → EndsAs t n ds false (going (ds ++ more)) new
going-ends t n ds more new stands = record {
  added = more;
  all = refl;
  stands = stands;
  halts = refl;
  limit = λ h. absurd (cc (h));
}

-- One thing after another

-- a part of a turn from one station to the next, before what ends as R, so that all ends as S
pub record Across (R S : Phase) (old mid end : StationState) (t : Network) (n : NodeId)
    (ds : List Doing) : Type 0 where
  pub done : List Doing
  pub more : List Doing
  pub all : done ≡ ds ++ more
  pub stands : IsStationOf t n done mid
  pub on : (halted : Bool) → R.ends mid end t n done halted → S.ends old end t n ds halted
  pub starves : R.starves mid end t n done → S.starves old end t n ds

-- what ends so of more doings does of those before, where the same is done
pub ends-later : (t : Network) (n : NodeId) (ds es more : List Doing) (halted : Bool) (p q : Progress)
    (new : StationState) → es ≡ ds ++ more → p ≡ q → EndsAs t n es halted p new → EndsAs t n ds halted q new
ends-later t n ds es more halted p q new all same ends =
    subst (λ x. EndsAs t n ds halted x new) same (record {
      added = more ++ ends.added;
      all = ends.all ∙ ap (λ xs. xs ++ ends.added) all ∙ append_assoc ds more ends.added;
      stands = ends.stands;
      halts = ends.halts;
      limit = ends.limit;
    })

-- the doings are the same with a halt that is known
pub going-of : (p : Progress) → p.halted ≡ false → p ≡ going p.doings
going-of p e = λ i. record { doings = p.doings; halted = e i }
