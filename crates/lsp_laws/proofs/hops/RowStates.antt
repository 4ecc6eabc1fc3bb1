-- What a hop says of the legs at its ends: which states of a leg go with which.
use Rattle.std.proofs.Common.{◌≡◌, Bool, true, false, List, [], ◌∷◌, ◌++◌, refl}
use Rattle.ason_base.specs.{declared.calls.Role.Role, declared.calls.Role.TheVariants.{Work, Back}}
use Rattle.lsp_laws.specs.HopShapes.{LegKind, NoLeg, AskedLeg, HeldLeg, ArmedLeg, LiveLeg, ClosingLeg, FallingLeg, MsgKind, Label, Removal, Tear, IsTorn, Closes, Falls, HasLetGo, NothingLeft, StillWaits, WasConnected, WorkCloses, BackFalls, MayBeResv, NoResv, OneResv, MayBeAnswer, NoAnswer, ResvAnswer, ContentionAnswer, Confirms, AtOnce, AfterResv, AfterContention, Shape, Answered, Idle, Reserved, TornConnected, TornStandby, Ahead}

-- Legs

-- a leg whose label is reserved: a working one is cross-connected at once
abbrev pub reserved_leg : Role → LegKind
reserved_leg Work = LiveLeg
reserved_leg Back = HeldLeg

-- a leg of this kind is beyond Asked: it has its label in
abbrev pub is_reserved : LegKind → Bool
is_reserved HeldLeg = true
is_reserved ArmedLeg = true
is_reserved LiveLeg = true
is_reserved _ = false

pub reserved_is : (r : Role) → is_reserved (reserved_leg r) ≡ true
reserved_is Work = refl
reserved_is Back = refl

-- what a leg is once it is torn
abbrev pub torn_leg : Role → LegKind → LegKind
torn_leg Back ArmedLeg = FallingLeg
torn_leg Back LiveLeg = FallingLeg
torn_leg r k = ClosingLeg

-- a leg that isn't torn
pub data KindStands : LegKind → Type 0 where
  AskedStands : KindStands AskedLeg
  HeldStands : KindStands HeldLeg
  ArmedStands : KindStands ArmedLeg
  LiveStands : KindStands LiveLeg

pub no_torn : (r : Role) (k : LegKind) → KindStands k → IsTorn r k → ⊥
no_torn r _ AskedStands torn = elim torn [ ]
no_torn r _ _ torn = elim torn [ ]

pub nothing_torn : (r : Role) → IsTorn r NoLeg → ⊥
nothing_torn r torn = elim torn [ ]

-- a leg that stands hasn't let go
pub not_let_go : (r : Role) (k : LegKind) → KindStands k → HasLetGo r k → ⊥
not_let_go r _ stands NothingLeft = elim stands [ ]
not_let_go r k stands (StillWaits torn) = no_torn r k stands torn

-- it has given up its label, and isn't Asked
pub let_go_free : (r : Role) (k : LegKind) → HasLetGo r k → is_reserved k ≡ false
let_go_free r _ NothingLeft = refl
let_go_free r _ (StillWaits Closes) = refl
let_go_free r _ (StillWaits Falls) = refl

pub let_go_not_asked : (r : Role) (k : LegKind) → HasLetGo r k → k ≡ AskedLeg → ⊥
let_go_not_asked r k gone asked = not_let_go r AskedLeg AskedStands (rw asked at gone)

pub was_torn : (r : Role) (k : LegKind) → WasConnected r k → IsTorn r k
was_torn _ _ WorkCloses = Closes
was_torn _ _ BackFalls = Falls

pub resv_confirms : (r : Role) (up : List MsgKind) → MayBeResv up → Confirms r (up ++ Removal ∷ [])
resv_confirms r _ NoResv = AtOnce
resv_confirms r _ OneResv = AfterResv

pub answer_confirms : (up : List MsgKind) → MayBeAnswer up → Confirms Back (up ++ Removal ∷ [])
answer_confirms _ NoAnswer = AtOnce
answer_confirms _ ResvAnswer = AfterResv
answer_confirms _ ContentionAnswer = AfterContention

pub left_behind : (r : Role) (d : LegKind) → HasLetGo r d → Shape r NoLeg d [] []
left_behind r _ NothingLeft = Idle
left_behind r d (StillWaits torn) = Ahead torn

-- A label goes back from a leg that has its labels, to one that is Asked, and to one that is torn.
pub label_back : (r : Role) → Shape r AskedLeg (reserved_leg r) [] (Label ∷ [])
label_back Work = Answered
label_back Back = Reserved

pub label_torn : (r : Role) → Shape r ClosingLeg (reserved_leg r) (Tear ∷ []) (Label ∷ [])
label_torn Work = TornConnected WorkCloses OneResv
label_torn Back = TornStandby Closes ResvAnswer
