-- The rows to which a Resv or a PathErr that is taken leads, at the leg upstream.
use Rattle.std.proofs.Common.{◌≡◌, Bool, true, false, List, [], ◌∷◌, refl, inl, inr}
use Rattle.std.specs.Prelude.{◌⊎◌}
use Rattle.ason_base.specs.{declared.calls.Role.Role, declared.calls.Role.TheVariants.Back}
use Rattle.lsp_laws.specs.HopShapes.{LegKind, NoLeg, AskedLeg, HeldLeg, ArmedLeg, LiveLeg, ClosingLeg, FallingLeg, MsgKind, Tear, Label, Removal, Contention, IsTorn, Closes, Falls, HasLetGo, NothingLeft, WorkCloses, BackFalls, NoResv, OneResv, NoAnswer, ResvAnswer, ContentionAnswer, AtOnce, AfterResv, AfterContention, Shape, Idle, Passed, Refused, Answered, Connected, Reserved, Standby, BothArmed, Activated, Contended, TornPassed, TornRefused, TornConnected, TornStandby, TornArmed, LetGo, Left, Ahead}
use Rattle.lsp_laws.proofs.hops.RowStates.{ArmedStands, AskedStands, KindStands, label_back, label_torn, left_behind, no_torn, not_let_go, reserved_leg, was_torn}

-- An Asked leg answers with its label, or lets go.
pub record AskedAnswers (r : Role) (u : LegKind) (down up : List MsgKind) : Type 0 where
  pub bare : (u ≡ AskedLeg) ⊎ (u ≡ ClosingLeg)
  pub quiet : up ≡ []
  -- no Path is under way to it
  pub down_is : (down ≡ []) ⊎ (down ≡ Tear ∷ [])
  pub answered : Shape r u (reserved_leg r) down (Label ∷ [])
  pub let_go : (d : LegKind) → HasLetGo r d → Shape r u d down (Removal ∷ [])

-- one row of them
asked_row : (r : Role) (u : LegKind) (down : List MsgKind) → (u ≡ AskedLeg) ⊎ (u ≡ ClosingLeg) →
    (down ≡ []) ⊎ (down ≡ Tear ∷ []) → Shape r u (reserved_leg r) down (Label ∷ []) →
    ((d : LegKind) → HasLetGo r d → Shape r u d down (Removal ∷ [])) → AskedAnswers r u down []
asked_row r u down bare down_is answered let_go =
    record { bare = bare; quiet = refl; down_is = down_is; answered = answered; let_go = let_go }

-- the rows in which the node downstream has let go, or its leg is torn
abbrev is_left : (r : Role) (u d : LegKind) (down up : List MsgKind) → Shape r u d down up → Bool
is_left r u d _ _ (Refused gone) = true
is_left r u d _ _ (TornRefused gone) = true
is_left r u d _ up (LetGo torn gone confirms) = true
is_left r u d _ _ (Left gone) = true
is_left r u d _ _ (Ahead torn) = true
is_left r u d down up _ = false

-- no leg stands there then
none_stands : (r : Role) (u d : LegKind) (down up : List MsgKind) → KindStands d → (row : Shape r u d down up) →
    is_left r u d down up row ≡ true → ⊥
none_stands r u d _ _ stands (Refused gone) e = not_let_go r d stands gone
none_stands r u d _ _ stands (TornRefused gone) e = not_let_go r d stands gone
none_stands r u d _ up stands (LetGo torn gone confirms) e = not_let_go r d stands gone
none_stands r u d _ _ stands (Left gone) e = not_let_go r d stands gone
none_stands r u d _ _ stands (Ahead torn) e = no_torn r d stands torn
none_stands r u d down up stands _ e = cc e

pub asked_answers : (r : Role) (u : LegKind) (down up : List MsgKind) → Shape r u AskedLeg down up →
    AskedAnswers r u down up
asked_answers r _ _ _ Passed = asked_row r _ _ (inl refl) (inl refl) (label_back r) (λ d gone. Refused gone)
asked_answers r _ _ _ TornPassed = asked_row r _ _ (inr refl) (inr refl) (label_torn r) (λ d gone. TornRefused gone)
asked_answers r u down up row = absurd (none_stands r u AskedLeg down up AskedStands row refl)

-- An Armed leg becomes Live, or is Held again.
pub record ArmedAnswers (r : Role) (u : LegKind) (down up : List MsgKind) : Type 0 where
  pub backup : r ≡ Back
  pub marked : (u ≡ ArmedLeg) ⊎ (u ≡ FallingLeg)
  pub quiet : up ≡ []
  pub activated : Shape r u LiveLeg down (Label ∷ [])
  pub contended : Shape r u HeldLeg down (Contention ∷ [])

armed_row : (u : LegKind) (down : List MsgKind) → (u ≡ ArmedLeg) ⊎ (u ≡ FallingLeg) →
    Shape Back u LiveLeg down (Label ∷ []) → Shape Back u HeldLeg down (Contention ∷ []) → ArmedAnswers Back u down []
armed_row u down marked activated contended =
    record { backup = refl; marked = marked; quiet = refl; activated = activated; contended = contended }

pub armed_answers : (r : Role) (u : LegKind) (down up : List MsgKind) → Shape r u ArmedLeg down up →
    ArmedAnswers r u down up
armed_answers _ _ _ _ BothArmed = armed_row _ _ (inl refl) Activated Contended
armed_answers _ _ _ _ TornArmed =
    armed_row _ _ (inr refl) (TornConnected BackFalls OneResv) (TornStandby Falls ContentionAnswer)
armed_answers r u down up row = absurd (none_stands r u ArmedLeg down up ArmedStands row refl)

-- A torn leg goes. No Path is under way to it.
pub record TornLeaves (r : Role) (u : LegKind) (down up : List MsgKind) : Type 0 where
  pub down_is : (down ≡ []) ⊎ (down ≡ Tear ∷ [])
  pub gone : Shape r u NoLeg down up

torn_left : (r : Role) (u d : LegKind) (down up : List MsgKind) → IsTorn r d → (row : Shape r u d down up) →
    is_left r u d down up row ≡ false → ⊥
torn_left r u _ _ _ Closes (Refused gone) e = cc e
torn_left r u _ down up Closes _ e = cc e
torn_left r u _ _ _ Falls (Refused gone) e = cc e
torn_left r u _ down up Falls _ e = cc e

pub torn_leaves : (r : Role) (u d : LegKind) (down up : List MsgKind) → IsTorn r d → Shape r u d down up →
    TornLeaves r u down up
torn_leaves r _ _ _ _ torn (Refused gone) = record { down_is = inl refl; gone = Refused NothingLeft }
torn_leaves r _ _ _ _ torn (TornRefused gone) = record { down_is = inr refl; gone = TornRefused NothingLeft }
torn_leaves r u _ _ up torn (LetGo waits gone confirms) =
    record { down_is = inl refl; gone = LetGo waits NothingLeft confirms }
torn_leaves r _ _ _ _ torn (Left gone) = record { down_is = inr refl; gone = Left NothingLeft }
torn_leaves r _ _ _ _ torn (Ahead waits) = record { down_is = inl refl; gone = Idle }
torn_leaves r u d down up torn row = absurd (torn_left r u d down up torn row refl)

-- A step at the upstream node

-- A Resv comes to an Asked leg, to an Armed one, or to a torn one.
pub data TakesResv : Role → LegKind → Type 0 where
  ByAsked : {r : Role} → TakesResv r AskedLeg
  ByArmed : TakesResv Back ArmedLeg
  ByTorn : {r : Role} {u : LegKind} → IsTorn r u → TakesResv r u

pub takes_resv : (r : Role) (u d : LegKind) (down up : List MsgKind) → Shape r u d down (Label ∷ up) → TakesResv r u
takes_resv r _ _ _ _ Answered = ByAsked
takes_resv r _ _ _ _ Reserved = ByAsked
takes_resv r _ _ _ _ Activated = ByArmed
takes_resv r u _ _ _ (TornConnected was may) = ByTorn (was_torn r u was)
takes_resv r u _ _ _ (TornStandby torn may) = ByTorn torn
takes_resv r u d _ _ (LetGo torn gone confirms) = ByTorn torn

-- The Asked leg has its label, or closes.
pub record ResvTaken (r : Role) (d : LegKind) (down up : List MsgKind) : Type 0 where
  pub far : d ≡ reserved_leg r
  pub none : down ≡ []
  pub last : up ≡ []
  pub connected : Shape r (reserved_leg r) d [] []
  pub torn : Shape r ClosingLeg d (Tear ∷ []) []

resv_row : (r : Role) → Shape r (reserved_leg r) (reserved_leg r) [] [] →
    Shape r ClosingLeg (reserved_leg r) (Tear ∷ []) [] → ResvTaken r (reserved_leg r) [] []
resv_row r connected torn = record { far = refl; none = refl; last = refl; connected = connected; torn = torn }

pub resv_asked : (r : Role) (d : LegKind) (down up : List MsgKind) → Shape r AskedLeg d down (Label ∷ up) →
    ResvTaken r d down up
resv_asked _ _ _ _ Answered = resv_row _ Connected (TornConnected WorkCloses NoResv)
resv_asked _ _ _ _ Reserved = resv_row _ Standby (TornStandby Closes NoAnswer)
resv_asked r _ down up (TornConnected was may) = elim was [ ]
resv_asked r _ down up (TornStandby torn may) = elim torn [ ]
resv_asked r d down up (LetGo torn gone confirms) = elim torn [ ]

-- The Armed leg is Live.
pub record ResvArmed (r : Role) (d : LegKind) (down up : List MsgKind) : Type 0 where
  pub backup : r ≡ Back
  pub live : d ≡ LiveLeg
  pub none : down ≡ []
  pub last : up ≡ []
  pub connected : Shape r LiveLeg d [] []

pub resv_armed : (r : Role) (d : LegKind) (down up : List MsgKind) → Shape r ArmedLeg d down (Label ∷ up) →
    ResvArmed r d down up
resv_armed _ _ _ _ Activated = record { backup = refl; live = refl; none = refl; last = refl; connected = Connected }
resv_armed r _ down up (TornConnected was may) = elim was [ ]
resv_armed r _ down up (TornStandby torn may) = elim torn [ ]
resv_armed r d down up (LetGo torn gone confirms) = elim torn [ ]

-- A torn leg stays as it is.
pub resv_torn : (r : Role) (u d : LegKind) (down up : List MsgKind) →
    IsTorn r u → Shape r u d down (Label ∷ up) → Shape r u d down up
resv_torn r u _ _ _ torn (TornConnected was OneResv) = TornConnected was NoResv
resv_torn r u _ _ _ torn (TornStandby waits ResvAnswer) = TornStandby waits NoAnswer
resv_torn r u d _ _ torn (LetGo waits gone AfterResv) = LetGo waits gone AtOnce
resv_torn r _ _ _ _ torn Answered = elim torn [ ]
resv_torn r _ _ _ _ torn Reserved = elim torn [ ]
resv_torn r _ _ _ _ torn Activated = elim torn [ ]

-- A PathErr that removes is the last message up. It comes to an Asked or a torn leg, which goes.
pub record RemovalTaken (r : Role) (u d : LegKind) (down up : List MsgKind) : Type 0 where
  pub which : (u ≡ AskedLeg) ⊎ IsTorn r u
  pub last : up ≡ []
  pub let_go : HasLetGo r d
  pub down_is : (down ≡ []) ⊎ (down ≡ Tear ∷ [])
  pub gone : Shape r NoLeg d down up

removal_row : (r : Role) (u d : LegKind) (down : List MsgKind) → HasLetGo r d → (u ≡ AskedLeg) ⊎ IsTorn r u →
    (down ≡ []) ⊎ (down ≡ Tear ∷ []) → Shape r NoLeg d down [] → RemovalTaken r u d down []
removal_row r u d down let_go which down_is gone =
    record { which = which; last = refl; let_go = let_go; down_is = down_is; gone = gone }

pub removal_taken : (r : Role) (u d : LegKind) (down up : List MsgKind) → Shape r u d down (Removal ∷ up) →
    RemovalTaken r u d down up
removal_taken r _ d _ _ (Refused gone) = removal_row r _ d _ gone (inl refl) (inl refl) (left_behind r d gone)
removal_taken r _ d _ _ (TornRefused gone) = removal_row r _ d _ gone (inr Closes) (inr refl) (Left gone)
removal_taken r u d _ _ (LetGo torn gone AtOnce) =
    removal_row r u d _ gone (inr torn) (inl refl) (left_behind r d gone)
removal_taken r u _ down up (TornConnected was may) = elim may [ ]
removal_taken r u _ down up (TornStandby torn may) = elim may [ ]

-- One that removes nothing comes to an Armed backup, which is Held again, or to a torn one, which stays.
pub data ContentionTaken : Role → LegKind → LegKind → List MsgKind → List MsgKind → Type 0 where
  HeldAgain : ContentionTaken Back ArmedLeg HeldLeg [] []
  Ignored : {u d : LegKind} {down up : List MsgKind} → IsTorn Back u → ContentionTaken Back u d down up

pub contention_taken : (r : Role) (u d : LegKind) (down up : List MsgKind) → Shape r u d down (Contention ∷ up) →
    ContentionTaken r u d down up
contention_taken r _ _ _ _ Contended = HeldAgain
contention_taken r u _ _ _ (TornStandby torn may) = Ignored torn
contention_taken r u d _ _ (LetGo torn gone AfterContention) = Ignored torn
contention_taken r u _ down up (TornConnected was may) = elim may [ ]

-- so to an Armed leg, or to a torn one
pub contention_to : (r : Role) (u d : LegKind) (down up : List MsgKind) → Shape r u d down (Contention ∷ up) →
    (u ≡ ArmedLeg) ⊎ IsTorn r u
contention_to r _ _ _ _ Contended = inl refl
contention_to r u _ _ _ (TornStandby torn may) = inr torn
contention_to r u d _ _ (LetGo torn gone AfterContention) = inr torn
contention_to r u _ down up (TornConnected was may) = elim may [ ]

pub contention_torn : (r : Role) (u d : LegKind) (down up : List MsgKind) →
    IsTorn r u → Shape r u d down (Contention ∷ up) → Shape r u d down up
contention_torn r u _ _ _ torn (TornStandby waits ContentionAnswer) = TornStandby waits NoAnswer
contention_torn r u d _ _ torn (LetGo waits gone AfterContention) = LetGo waits gone AtOnce
contention_torn r u _ down up torn (TornConnected was may) = elim may [ ]
contention_torn r _ _ _ _ torn Contended = elim torn [ ]
