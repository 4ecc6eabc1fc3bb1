-- What goes up a hop: nothing, a label that the downstream leg has, or the message that it has let go.
use Rattle.std.proofs.{Common.{◌≡◌, ℕ, true, false, List, [], ◌∷◌, ◌++◌, refl, sym, subst, ◌∙◌, arith, inl}, lemmas.List.Elements.Contains-append_right}
use Rattle.std.specs.{Prelude.{map, Option, Some}, List.Contains}
use Rattle.ason_base.specs.{declared.calls.Role.Role, declared.messages.Msg.Msg, declared.messages.Msg.TheVariants.{Path, Resv, PathTear, PathErr, Notify}, declared.tables.Leg.Leg}
use Rattle.lsp_laws.specs.HopShapes.{LegKind, NoLeg, AskedLeg, HasLetGo, IsTorn, MsgKind, PlainPath, Label, Removal, Contention, leg_kind, msg_kind, phase_kind, Confirms, AtOnce, AfterResv, AfterContention, Shape, Idle, Asking, Passed, Refused, Answered, Connected, Reserved, Standby, Activating, BothArmed, Activated, Contended, Deactivating, Reactivating, TornAsking, TornPassed, TornRefused, TornConnected, TornStandby, TornActivating, TornArmed, TornDeactivating, TornReactivating, LetGo, Left, Ahead}
use Rattle.lsp_laws.proofs.{hops.Plans.Plan, hops.Purposes.{IsPending, Purpose, Rest, has_path, purpose_role}, hops.RowStates.{AskedStands, is_reserved, let_go_free, no_torn, not_let_go, nothing_torn}}

-- what goes up a hop: nothing, while the upstream leg is gone or Asked or the downstream node hasn't answered; or a
-- downstream leg stands that has its label in; or the last message lets go
pub data AnswersUp : LegKind → LegKind → List MsgKind → List MsgKind → Type 0 where
  NoneUpstream : {d : LegKind} {down : List MsgKind} → AnswersUp NoLeg d down []
  StillAsked : {d : LegKind} {down : List MsgKind} → AnswersUp AskedLeg d down []
  FirstPath : {u : LegKind} {down : List MsgKind} → AnswersUp u NoLeg (PlainPath ∷ down) []
  DownAsked : {u : LegKind} {down : List MsgKind} → AnswersUp u AskedLeg down []
  Stands : {u d : LegKind} {down up : List MsgKind} → is_reserved d ≡ true → AnswersUp u d down up
  Gone : {u d : LegKind} {down up : List MsgKind} (first : List MsgKind) → up ≡ first ++ Removal ∷ [] →
      AnswersUp u d down up

confirmed_up : (r : Role) (u d : LegKind) (down up : List MsgKind) → Confirms r up → AnswersUp u d down up
confirmed_up _ u d down _ AtOnce = Gone [] refl
confirmed_up _ u d down _ AfterResv = Gone (Label ∷ []) refl
confirmed_up _ u d down _ AfterContention = Gone (Contention ∷ []) refl

-- each row says which of these it is
pub answers : (r : Role) (u d : LegKind) (down up : List MsgKind) → Shape r u d down up → AnswersUp u d down up
answers _ _ _ _ _ Idle = NoneUpstream
answers _ _ _ _ _ Asking = StillAsked
answers _ _ _ _ _ Passed = StillAsked
answers _ _ _ _ _ (Refused gone) = Gone [] refl
answers _ _ _ _ _ Answered = Stands refl
answers _ _ _ _ _ Connected = Stands refl
answers _ _ _ _ _ Reserved = Stands refl
answers _ _ _ _ _ Standby = Stands refl
answers _ _ _ _ _ Activating = Stands refl
answers _ _ _ _ _ BothArmed = Stands refl
answers _ _ _ _ _ Activated = Stands refl
answers _ _ _ _ _ Contended = Stands refl
answers _ _ _ _ _ Deactivating = Stands refl
answers _ _ _ _ _ Reactivating = Stands refl
answers _ _ _ _ _ TornAsking = FirstPath
answers _ _ _ _ _ TornPassed = DownAsked
answers _ _ _ _ _ (TornRefused gone) = Gone [] refl
answers _ _ _ _ _ (TornConnected was may) = Stands refl
answers _ _ _ _ _ (TornStandby torn may) = Stands refl
answers _ _ _ _ _ TornActivating = Stands refl
answers _ _ _ _ _ TornArmed = Stands refl
answers _ _ _ _ _ TornDeactivating = Stands refl
answers _ _ _ _ _ TornReactivating = Stands refl
answers r u d down up (LetGo torn gone confirms) = confirmed_up r u d down up confirms
answers _ _ _ _ _ (Left gone) = NoneUpstream
answers _ _ _ _ _ (Ahead torn) = NoneUpstream

-- a Path is on the hop
pub plain-has_path : (ms : List Msg) (kinds : List MsgKind) → map msg_kind ms ≡ PlainPath ∷ kinds → has_path ms ≡ true
plain-has_path [] kinds e = absurd (cc e)
plain-has_path (Path l e k route set up r ∷ ms) kinds is = refl
plain-has_path (Resv l e k y ∷ ms) kinds is = absurd (cc is)
plain-has_path (PathTear l e k ∷ ms) kinds is = absurd (cc is)
plain-has_path (PathErr l e at true code ∷ ms) kinds is = absurd (cc is)
plain-has_path (PathErr l e at false code ∷ ms) kinds is = absurd (cc is)
plain-has_path (Notify l e at k code ∷ ms) kinds is = absurd (cc is)

-- where u is torn and has a label out, and d has let go, the message that says so is on its way
pub let-go-confirmed : (q : Purpose) (p : Plan) (i : ℕ) (g : Leg) (d : Option Leg) (down up : List Msg) (x : ℕ) →
    Shape (purpose_role q) (leg_kind (Some g)) (leg_kind d) (map msg_kind down) (map msg_kind up) →
    Rest q p i (Some g) d down up → IsTorn (purpose_role q) (phase_kind g.phase) → g.out_label ≡ Some x →
    HasLetGo (purpose_role q) (leg_kind d) → Contains (map msg_kind up) Removal
let-go-confirmed q p i g d down up x shape rest torn out gone =
    go _ _ _ _ refl refl refl refl
    (answers (purpose_role q) (phase_kind g.phase) (leg_kind d) (map msg_kind down) (map msg_kind up) shape)
  where
    -- while d hasn't answered u has no label out
    never : IsPending (leg_kind d) down → Contains (map msg_kind up) Removal
    never pending = absurd (let none = rest.bare pending in cc (none, out))

    go : (a c : LegKind) (ds us : List MsgKind) → phase_kind g.phase ≡ a → leg_kind d ≡ c → map msg_kind down ≡ ds →
        map msg_kind up ≡ us → AnswersUp a c ds us → Contains (map msg_kind up) Removal
    go _ c ds _ at_u at_d is_d is_u NoneUpstream = absurd (nothing_torn (purpose_role q) (rw at_u at torn))
    go _ c ds _ at_u at_d is_d is_u StillAsked =
        absurd (no_torn (purpose_role q) AskedLeg AskedStands (rw at_u at torn))
    go a _ _ _ at_u at_d is_d is_u FirstPath = never (inl (at_d, plain-has_path down _ is_d))
    go a _ ds _ at_u at_d is_d is_u DownAsked =
        absurd (not_let_go (purpose_role q) AskedLeg AskedStands (rw at_d at gone))
    go a c ds us at_u at_d is_d is_u (Stands here) =
        let free : is_reserved c ≡ false = rw at_d at (let_go_free (purpose_role q) (leg_kind d) gone) in
        absurd (cc (free, here))
    go a c ds us at_u at_d is_d is_u (Gone first e) =
        subst (λ ks. Contains ks Removal) (sym (is_u ∙ e))
        (Contains-append_right first (Removal ∷ []) Removal (0, omega arith, refl))
