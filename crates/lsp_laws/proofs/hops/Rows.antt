-- How the rows of hops follow each other where a leg is torn, activated or taken back, and what a leg upstream or
-- downstream tells of its hop.
use Rattle.std.proofs.Common.{◌≡◌, true, false, List, [], ◌∷◌, ◌++◌, refl, inl, inr}
use Rattle.std.specs.Prelude.{◌⊎◌}
use Rattle.ason_base.specs.{declared.calls.Role.Role, declared.calls.Role.TheVariants.{Work, Back}}
use Rattle.lsp_laws.specs.HopShapes.{LegKind, NoLeg, HeldLeg, ArmedLeg, LiveLeg, MsgKind, PlainPath, ActivePath, Tear, Label, Removal, Contention, IsTorn, Closes, Falls, StillWaits, WorkCloses, BackFalls, NoResv, OneResv, NoAnswer, ResvAnswer, ContentionAnswer, Shape, Idle, Asking, Passed, Refused, Answered, Connected, Reserved, Standby, Activating, BothArmed, Activated, Contended, Deactivating, Reactivating, TornAsking, TornPassed, TornRefused, TornConnected, TornStandby, TornActivating, TornArmed, TornDeactivating, TornReactivating, LetGo, Left, Ahead}
use Rattle.lsp_laws.proofs.hops.RowStates.{ArmedStands, AskedStands, HeldStands, LiveStands, KindStands, is_reserved, let_go_free, no_torn, torn_leg, was_torn}

-- A leg that isn't torn closes, and a PathTear goes on.
pub tears : (r : Role) (u d : LegKind) (down up : List MsgKind) →
    KindStands u → Shape r u d down up → Shape r (torn_leg r u) d (down ++ Tear ∷ []) up
tears Work _ _ _ _ stands Asking = TornAsking
tears Back _ _ _ _ stands Asking = TornAsking
tears Work _ _ _ _ stands Passed = TornPassed
tears Back _ _ _ _ stands Passed = TornPassed
tears Work _ d _ _ stands (Refused gone) = TornRefused gone
tears Back _ d _ _ stands (Refused gone) = TornRefused gone
tears r _ _ _ _ stands Answered = TornConnected WorkCloses OneResv
tears Work _ _ _ _ stands Connected = TornConnected WorkCloses NoResv
tears Back _ _ _ _ stands Connected = TornConnected BackFalls NoResv
tears r _ _ _ _ stands Reserved = TornStandby Closes ResvAnswer
tears r _ _ _ _ stands Standby = TornStandby Closes NoAnswer
tears r _ _ _ _ stands Activating = TornActivating
tears r _ _ _ _ stands BothArmed = TornArmed
tears r _ _ _ _ stands Activated = TornConnected BackFalls OneResv
tears r _ _ _ _ stands Contended = TornStandby Falls ContentionAnswer
tears r _ _ _ _ stands Deactivating = TornDeactivating
tears r _ _ _ _ stands Reactivating = TornReactivating
tears r _ _ _ _ stands Idle = elim stands [ ]
tears r _ _ _ _ stands TornAsking = elim stands [ ]
tears r _ _ _ _ stands TornPassed = elim stands [ ]
tears r _ _ _ _ stands (TornRefused gone) = elim stands [ ]
tears r u _ _ _ stands (TornConnected was may) = absurd (no_torn r u stands (was_torn r u was))
tears r u _ _ _ stands (TornStandby torn may) = absurd (no_torn r u stands torn)
tears r _ _ _ _ stands TornActivating = elim stands [ ]
tears r _ _ _ _ stands TornArmed = elim stands [ ]
tears r _ _ _ _ stands TornDeactivating = elim stands [ ]
tears r _ _ _ _ stands TornReactivating = elim stands [ ]
tears r u _ _ _ stands (LetGo torn gone confirms) = absurd (no_torn r u stands torn)
tears r _ _ _ _ stands (Left gone) = elim stands [ ]
tears r _ _ _ _ stands (Ahead torn) = elim stands [ ]

-- A Held leg is Armed, and an active Path goes on.
pub activates : (r : Role) (d : LegKind) (down up : List MsgKind) → Shape r HeldLeg d down up →
    Shape r ArmedLeg d (down ++ ActivePath ∷ []) up
activates _ _ _ _ Standby = Activating
activates _ _ _ _ Deactivating = Reactivating
activates r _ down up (TornConnected was may) = elim was [ ]
activates r _ down up (TornStandby torn may) = elim torn [ ]
activates r d down up (LetGo torn gone confirms) = elim torn [ ]

-- A Live backup is Held, and a Path that takes its activation back goes on.
pub deactivates : (d : LegKind) (down up : List MsgKind) → Shape Back LiveLeg d down up →
    Shape Back HeldLeg d (down ++ PlainPath ∷ []) up
deactivates _ _ _ Connected = Deactivating
deactivates _ down up (TornConnected was may) = elim was [ ]
deactivates _ down up (TornStandby torn may) = elim torn [ ]
deactivates d down up (LetGo torn gone confirms) = elim torn [ ]

-- While the upstream leg is Live, so is the downstream one, and nothing is under way.
pub record LiveUpstream (d : LegKind) (down up : List MsgKind) : Type 0 where
  pub live : d ≡ LiveLeg
  pub none_down : down ≡ []
  pub none_up : up ≡ []

pub live_upstream : (r : Role) (d : LegKind) (down up : List MsgKind) → Shape r LiveLeg d down up →
    LiveUpstream d down up
live_upstream r _ _ _ Connected = record { live = refl; none_down = refl; none_up = refl }
live_upstream r _ down up (TornConnected was may) = elim was [ ]
live_upstream r _ down up (TornStandby torn may) = elim torn [ ]
live_upstream r d down up (LetGo torn gone confirms) = elim torn [ ]

-- While the upstream leg is Held the downstream one is, too, or it is Live and a Path goes to it that takes back.
pub held_upstream : (r : Role) (d : LegKind) (down up : List MsgKind) → Shape r HeldLeg d down up →
    (d ≡ HeldLeg) ⊎ ((d ≡ LiveLeg) × (down ≡ PlainPath ∷ []))
held_upstream _ _ _ _ Standby = inl refl
held_upstream _ _ _ _ Deactivating = inr (refl, refl)
held_upstream r _ down up (TornConnected was may) = elim was [ ]
held_upstream r _ down up (TornStandby torn may) = elim torn [ ]
held_upstream r d down up (LetGo torn gone confirms) = elim torn [ ]

torn_not_reserved : (r : Role) (u : LegKind) → IsTorn r u → is_reserved u ≡ true → ⊥
torn_not_reserved r u torn reserved = let free = let_go_free r u (StillWaits torn) in cc (free, reserved)

-- While the upstream leg has a label in, so has the downstream one.
pub reserved_upstream : (r : Role) (u d : LegKind) (down up : List MsgKind) → Shape r u d down up →
    is_reserved u ≡ true → is_reserved d ≡ true
reserved_upstream r _ _ _ _ Connected e = refl
reserved_upstream r _ _ _ _ Standby e = refl
reserved_upstream r _ _ _ _ Activating e = refl
reserved_upstream r _ _ _ _ BothArmed e = refl
reserved_upstream r _ _ _ _ Activated e = refl
reserved_upstream r _ _ _ _ Contended e = refl
reserved_upstream r _ _ _ _ Deactivating e = refl
reserved_upstream r _ _ _ _ Reactivating e = refl
reserved_upstream r u _ _ up (TornConnected was may) e = absurd (torn_not_reserved r u (was_torn r u was) e)
reserved_upstream r u _ _ up (TornStandby torn may) e = absurd (torn_not_reserved r u torn e)
reserved_upstream r u d _ up (LetGo torn gone confirms) e = absurd (torn_not_reserved r u torn e)
reserved_upstream r _ _ _ _ Idle e = absurd (cc e)
reserved_upstream r _ _ _ _ Asking e = absurd (cc e)
reserved_upstream r _ _ _ _ Passed e = absurd (cc e)
reserved_upstream r _ d _ _ (Refused gone) e = absurd (cc e)
reserved_upstream r _ _ _ _ Answered e = absurd (cc e)
reserved_upstream r _ _ _ _ Reserved e = absurd (cc e)
reserved_upstream r _ _ _ _ TornAsking e = absurd (cc e)
reserved_upstream r _ _ _ _ TornPassed e = absurd (cc e)
reserved_upstream r _ d _ _ (TornRefused gone) e = absurd (cc e)
reserved_upstream r _ _ _ _ TornActivating e = absurd (cc e)
reserved_upstream r _ _ _ _ TornArmed e = absurd (cc e)
reserved_upstream r _ _ _ _ TornDeactivating e = absurd (cc e)
reserved_upstream r _ _ _ _ TornReactivating e = absurd (cc e)
reserved_upstream r _ d _ _ (Left gone) e = absurd (cc e)
reserved_upstream r _ d _ _ (Ahead torn) e = absurd (cc e)

-- So there is one.
pub leg_downstream : (r : Role) (u d : LegKind) (down up : List MsgKind) → Shape r u d down up → is_reserved u ≡ true →
    d ≡ NoLeg → ⊥
leg_downstream r u d down up shape reserved gone =
    let there : is_reserved d ≡ true = reserved_upstream r u d down up shape reserved in
    let never : false ≡ true = rw gone at there in
    cc never

-- Nothing is under way: both legs are as one, or the upstream one is gone.
pub data Settled : Role → LegKind → LegKind → Type 0 where
  NoneThere : {r : Role} → Settled r NoLeg NoLeg
  OnlyTorn : {r : Role} {d : LegKind} → IsTorn r d → Settled r NoLeg d
  BothStand : {r : Role} {k : LegKind} → KindStands k → Settled r k k

pub settled : (r : Role) (u d : LegKind) → Shape r u d [] [] → Settled r u d
settled r _ _ Idle = NoneThere
settled r _ _ Passed = BothStand AskedStands
settled r _ _ Connected = BothStand LiveStands
settled r _ _ Standby = BothStand HeldStands
settled r _ _ BothArmed = BothStand ArmedStands
settled r _ d (Ahead torn) = OnlyTorn torn
settled r u d (LetGo torn gone confirms) = elim confirms [ ]

-- What doesn't come

pub no_resv_down : (r : Role) (u d : LegKind) (down up : List MsgKind) → Shape r u d (Label ∷ down) up → ⊥
no_resv_down r u d down up h = elim h [ ]

pub no_removal_down : (r : Role) (u d : LegKind) (down up : List MsgKind) → Shape r u d (Removal ∷ down) up → ⊥
no_removal_down r u d down up h = elim h [ ]

pub no_contention_down : (r : Role) (u d : LegKind) (down up : List MsgKind) → Shape r u d (Contention ∷ down) up → ⊥
no_contention_down r u d down up h = elim h [ ]

pub no_path_up : (r : Role) (u d : LegKind) (down up : List MsgKind) → Shape r u d down (PlainPath ∷ up) → ⊥
no_path_up r u _ down up (TornConnected was may) = elim may [ ]
no_path_up r u _ down up (TornStandby torn may) = elim may [ ]
no_path_up r u d down up (LetGo torn gone confirms) = elim confirms [ ]

pub no_active_up : (r : Role) (u d : LegKind) (down up : List MsgKind) → Shape r u d down (ActivePath ∷ up) → ⊥
no_active_up r u _ down up (TornConnected was may) = elim may [ ]
no_active_up r u _ down up (TornStandby torn may) = elim may [ ]
no_active_up r u d down up (LetGo torn gone confirms) = elim confirms [ ]

pub no_tear_up : (r : Role) (u d : LegKind) (down up : List MsgKind) → Shape r u d down (Tear ∷ up) → ⊥
no_tear_up r u _ down up (TornConnected was may) = elim may [ ]
no_tear_up r u _ down up (TornStandby torn may) = elim may [ ]
no_tear_up r u d down up (LetGo torn gone confirms) = elim confirms [ ]
