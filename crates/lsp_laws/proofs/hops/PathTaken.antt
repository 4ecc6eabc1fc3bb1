-- The rows to which a Path or a PathTear that is taken leads, at the leg downstream.
use Rattle.std.proofs.Common.{◌≡◌, List, [], ◌∷◌, ◌++◌, refl, inl, inr}
use Rattle.std.specs.Prelude.{◌⊎◌}
use Rattle.ason_base.specs.{declared.calls.Role.Role, declared.calls.Role.TheVariants.Back}
use Rattle.lsp_laws.specs.HopShapes.{LegKind, NoLeg, AskedLeg, HeldLeg, ArmedLeg, LiveLeg, ClosingLeg, FallingLeg, MsgKind, PlainPath, ActivePath, Tear, Label, Removal, Contention, Closes, Falls, HasLetGo, NothingLeft, BackFalls, OneResv, NoAnswer, ContentionAnswer, AtOnce, Shape, Asking, Passed, Refused, Standby, Activating, BothArmed, Activated, Contended, Deactivating, Reactivating, TornAsking, TornPassed, TornRefused, TornConnected, TornStandby, TornActivating, TornArmed, TornDeactivating, TornReactivating, LetGo, Left}
use Rattle.lsp_laws.proofs.hops.RowStates.{ArmedStands, AskedStands, HeldStands, LiveStands, KindStands, answer_confirms, label_back, label_torn, left_behind, not_let_go, reserved_leg, resv_confirms, was_torn}

-- A step at the downstream node

-- The first Path is taken: no leg is there, and nothing comes up. The leg may be Asked, or have its label at once, or
-- none is made.
pub record FirstTaken (r : Role) (u : LegKind) (down up : List MsgKind) : Type 0 where
  pub quiet : up ≡ []
  pub last : (down ≡ []) ⊎ (down ≡ Tear ∷ [])
  -- the upstream leg has no label out yet
  pub bare : (u ≡ AskedLeg) ⊎ (u ≡ ClosingLeg)
  pub passed : Shape r u AskedLeg down []
  pub answered : Shape r u (reserved_leg r) down (Label ∷ [])
  pub refused : Shape r u NoLeg down (Removal ∷ [])

-- one row of them
first_row : (r : Role) (u : LegKind) (down : List MsgKind) → (down ≡ []) ⊎ (down ≡ Tear ∷ []) →
    (u ≡ AskedLeg) ⊎ (u ≡ ClosingLeg) → Shape r u AskedLeg down [] → Shape r u (reserved_leg r) down (Label ∷ []) →
    Shape r u NoLeg down (Removal ∷ []) → FirstTaken r u down []
first_row r u down last bare passed answered refused =
    record { quiet = refl; last = last; bare = bare; passed = passed; answered = answered; refused = refused }

pub first_taken : (r : Role) (u : LegKind) (down up : List MsgKind) → Shape r u NoLeg (PlainPath ∷ down) up →
    FirstTaken r u down up
first_taken r _ _ _ Asking = first_row r _ _ (inl refl) (inl refl) Passed (label_back r) (Refused NothingLeft)
first_taken r _ _ _ TornAsking =
    first_row r _ _ (inr refl) (inr refl) TornPassed (label_torn r) (TornRefused NothingLeft)

-- A Path that doesn't activate comes to no leg, or to a Live backup, whose activation it takes back.
pub record TakenBack (r : Role) (u d : LegKind) (down up : List MsgKind) : Type 0 where
  pub backup : r ≡ Back
  pub live : d ≡ LiveLeg
  pub quiet : up ≡ []
  pub held : Shape r u HeldLeg down up

pub plain_taken : (r : Role) (u d : LegKind) (down up : List MsgKind) →
    Shape r u d (PlainPath ∷ down) up → (d ≡ NoLeg) ⊎ TakenBack r u d down up
plain_taken _ _ _ _ _ Asking = inl refl
plain_taken _ _ _ _ _ TornAsking = inl refl
plain_taken _ _ _ _ _ Deactivating = inr (record { backup = refl; live = refl; quiet = refl; held = Standby })
plain_taken _ _ _ _ _ Reactivating = inr (record { backup = refl; live = refl; quiet = refl; held = Activating })
plain_taken _ _ _ _ _ TornDeactivating =
    inr (record { backup = refl; live = refl; quiet = refl; held = TornStandby Closes NoAnswer })
plain_taken _ _ _ _ _ TornReactivating =
    inr (record { backup = refl; live = refl; quiet = refl; held = TornActivating })

-- An active Path comes to a Held backup, which is Armed, or Live with a Resv, or refuses.
pub record ActiveTaken (r : Role) (u d : LegKind) (down up : List MsgKind) : Type 0 where
  pub backup : r ≡ Back
  pub held : d ≡ HeldLeg
  pub quiet : up ≡ []
  -- the upstream leg has a label out
  pub marked : (u ≡ ArmedLeg) ⊎ (u ≡ FallingLeg)
  pub armed : Shape r u ArmedLeg down []
  pub activated : Shape r u LiveLeg down (Label ∷ [])
  pub contended : Shape r u HeldLeg down (Contention ∷ [])

-- one row of them
active_row : (u : LegKind) (down : List MsgKind) → (u ≡ ArmedLeg) ⊎ (u ≡ FallingLeg) → Shape Back u ArmedLeg down [] →
    Shape Back u LiveLeg down (Label ∷ []) → Shape Back u HeldLeg down (Contention ∷ []) →
    ActiveTaken Back u HeldLeg down []
active_row u down marked armed activated contended = record {
  backup = refl;
  held = refl;
  quiet = refl;
  marked = marked;
  armed = armed;
  activated = activated;
  contended = contended;
}

pub active_taken : (r : Role) (u d : LegKind) (down up : List MsgKind) → Shape r u d (ActivePath ∷ down) up →
    ActiveTaken r u d down up
active_taken _ _ _ _ _ Activating = active_row _ _ (inl refl) BothArmed Activated Contended
active_taken _ _ _ _ _ TornActivating =
    active_row _ _ (inr refl) TornArmed (TornConnected BackFalls OneResv) (TornStandby Falls ContentionAnswer)

-- A PathTear is taken by a leg that isn't torn: it goes, or waits for the next node.
pub record TearTaken (r : Role) (u : LegKind) (down up : List MsgKind) : Type 0 where
  pub last : down ≡ []
  pub let_go : (d : LegKind) → HasLetGo r d → Shape r u d [] (up ++ Removal ∷ [])

pub tear_taken : (r : Role) (u d : LegKind) (down up : List MsgKind) → KindStands d → Shape r u d (Tear ∷ down) up →
    TearTaken r u down up
tear_taken r _ _ _ _ stands TornPassed = record { last = refl; let_go = λ d gone. LetGo Closes gone AtOnce }
tear_taken r u _ _ up stands (TornConnected was may) = record {
  last = refl;
  let_go = λ d gone. LetGo (was_torn r u was) gone (resv_confirms r up may);
}
tear_taken r u _ _ up stands (TornStandby torn may) = record {
  last = refl;
  let_go = λ d gone. LetGo torn gone (answer_confirms up may);
}
tear_taken r _ _ _ _ stands TornArmed = record { last = refl; let_go = λ d gone. LetGo Falls gone AtOnce }
tear_taken r u d _ _ stands (TornRefused gone) = absurd (not_let_go r d stands gone)
tear_taken r u d _ _ stands (Left gone) = absurd (not_let_go r d stands gone)

-- Where the node has let go, it changes nothing.
pub tear_late : (r : Role) (u d : LegKind) (down up : List MsgKind) →
    HasLetGo r d → Shape r u d (Tear ∷ down) up → (down ≡ []) × Shape r u d [] up
tear_late r _ d _ _ late (TornRefused gone) = (refl, LetGo Closes gone AtOnce)
tear_late r _ d _ _ late (Left gone) = (refl, left_behind r d gone)
tear_late r _ _ _ _ late TornPassed = absurd (not_let_go r AskedLeg AskedStands late)
tear_late r u _ _ up late (TornConnected was may) = absurd (not_let_go r LiveLeg LiveStands late)
tear_late r u _ _ up late (TornStandby torn may) = absurd (not_let_go r HeldLeg HeldStands late)
tear_late r _ _ _ _ late TornArmed = absurd (not_let_go r ArmedLeg ArmedStands late)

-- It is the last message down.
pub tear_last : (r : Role) (u d : LegKind) (down up : List MsgKind) → Shape r u d (Tear ∷ down) up → down ≡ []
tear_last r _ _ _ _ TornPassed = refl
tear_last r _ d _ _ (TornRefused gone) = refl
tear_last r u _ _ up (TornConnected was may) = refl
tear_last r u _ _ up (TornStandby torn may) = refl
tear_last r _ _ _ _ TornArmed = refl
tear_last r _ d _ _ (Left gone) = refl
