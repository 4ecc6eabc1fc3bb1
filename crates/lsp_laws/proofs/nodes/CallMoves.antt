-- What a rule makes of a call: it stands and keeps its backup where it did, its cause and its ticks fit its state, and
-- what holds of each report goes on to hold; and it turns only where something is reported of its
-- working LSP, and goes back only where nothing is.
use Rattle.std.proofs.{Common.{Bool, true, false, cond, ◌⊎◌, inl, inr, ◌≡◌, ◌+◌, ℕ, not, nat_eq, List, [], ◌∷◌, ◌++◌, refl, sym, ap, subst, ◌∙◌}, lemmas.Bool.or_right, ByRecursion.All-append}
use Rattle.std.specs.{Prelude.{◌&&◌, ◌||◌, Option, Some, None}, List.AllByRecursion}
use Rattle.ason_base.specs.{declared.calls.CallState.TheVariants.{Asking, Bare, Blocked, Guarded, Pairing, Stuck, Turned, Turning}, declared.calls.CallState.CallState, declared.calls.Cause.TheVariants.Unset, declared.calls.Cause.Cause, declared.ids.Fibre.Fibre, declared.ids.Lsp.Lsp, declared.tables.CallRec.CallRec, Lsps.{has_fibre, is_lsp}}
use Rattle.ason_base.proofs.Members.{all-filter}
use Rattle.mesh_rules.specs.{Calls.{bare, blocked, guarded, is_asking, is_bare, is_pairing, is_turned, pairing, stuck, turned, turning, unbacked}, Reports.fibres_after, Turns.has_any}
use Rattle.mesh_nodes.proofs.{Cases.if_cases, LegList.same_lsp-eq}
use Rattle.lsp_laws.specs.{CallLaw.{IsTidy, fits_cause, fits_protected, is_unset}, ReportLaw.{AreOf, ReportsAreOf}, StandLaw.{has_backup, is_standing_call}}

-- no backup is reserved
abbrev pub IsLone : CallRec → Type 0
IsLone c = has_backup c.state ≡ true → ⊥

pub asking-is : (f : CallState) → is_asking f ≡ true → f ≡ Asking
asking-is Asking e = refl
asking-is _ e = absurd (cc e)

pub asking-lone : (f : CallState) → is_asking f ≡ true → has_backup f ≡ true → ⊥
asking-lone Asking e h = cc h
asking-lone _ e h = cc e

pub bare-lone : (f : CallState) → is_bare f ≡ true → has_backup f ≡ true → ⊥
bare-lone Bare e h = cc h
bare-lone _ e h = cc e

pub pairing-lone : (f : CallState) → is_pairing f ≡ true → has_backup f ≡ true → ⊥
pairing-lone Pairing e h = cc h
pairing-lone _ e h = cc e

-- A call may leave its state: a turned one where nothing is reported of its working LSP, a guarded one where something is.
pub record MayLeave (c : CallRec) : Type 0 where
  pub turned : c.state ≡ Turned → has_any c.work_reports ≡ false
  pub guarded : c.state ≡ Guarded → has_any c.work_reports ≡ true

-- one in another state may, where a test tells of it
pub by-test : (c : CallRec) (test : CallState → Bool) → test Turned ≡ false → test Guarded ≡ false →
    test c.state ≡ true → MayLeave c
by-test c test none apart is = record {
  turned = λ e. (let never : test Turned ≡ true = subst (λ f. test f ≡ true) e is in absurd (cc (none, never)));
  guarded = λ e. (let never : test Guarded ≡ true = subst (λ f. test f ≡ true) e is in absurd (cc (apart, never)));
}

-- a guarded one that is hit
pub hit-guarded : (c : CallRec) → c.state ≡ Guarded → has_any c.work_reports ≡ true → MayLeave c
hit-guarded c is some = record { turned = λ e. absurd (let never = sym is ∙ e in cc never); guarded = λ e. some }

-- and a turned one whose working LSP is whole
pub whole-turned : (c : CallRec) → (c.state ≡ Guarded → ⊥) → has_any c.work_reports ≡ false → MayLeave c
whole-turned c other none = record { turned = λ e. none; guarded = λ e. absurd (other e) }

-- a state that a test tells of isn't guarded, where the test doesn't tell of that
pub not-guarded : (c : CallRec) (test : CallState → Bool) → test Guarded ≡ false → test c.state ≡ true →
    c.state ≡ Guarded → ⊥
not-guarded c test apart is e =
    let never : test Guarded ≡ true = subst (λ f. test f ≡ true) e is in cc (apart, never)

pub asking-stands : (f : CallState) → is_asking f ≡ true → is_standing_call f ≡ true → ⊥
asking-stands f asking h = let never = subst (λ f. is_standing_call f ≡ true) (asking-is f asking) h in cc never

-- a report of the working LSP: without one the call waits as before, with one it doesn't wait
pub reported-ticks : (ticks : ℕ) (turned before after : Bool) → (nat_eq ticks 0 || (turned && not before)) ≡ true →
    (nat_eq (cond after 0 ticks) 0 || (turned && not after)) ≡ true
reported-ticks ticks turned before true e = refl
reported-ticks ticks turned before false e = go (nat_eq ticks 0) turned before e
  where
    go : (z turned before : Bool) → (z || (turned && not before)) ≡ true → (z || (turned && true)) ≡ true
    go true turned before e = refl
    go false true before e = refl
    go false false before e = absurd (cc e)

-- the reports with a fibre more, or with one less
pub all-fibres : (P : Fibre → Type 0) (down : Bool) (f : Fibre) (fibres : List Fibre) → P f → AllByRecursion P fibres →
    AllByRecursion P (fibres_after down f fibres)
all-fibres P true f fibres here all =
    if_cases (AllByRecursion P) (has_fibre fibres f) fibres (fibres ++ f ∷ []) (λ e. all)
    (λ e. All-append P fibres (f ∷ []) all (here, tt))
all-fibres P false f fibres here all = all-filter P _ fibres all

pub of-after : (Rep : Lsp → Fibre → Type 0) (o : Option Lsp) (l : Lsp) (down : Bool) (f : Fibre) (fibres : List Fibre) →
    is_lsp o l ≡ true → Rep l f → AreOf Rep o fibres → AreOf Rep o (fibres_after down f fibres)
of-after Rep None l down f fibres e here all = tt
of-after Rep (Some m) l down f fibres e here all =
    let is : m ≡ l = same_lsp-eq m l e in
    all-fibres (Rep m) down f fibres (subst (λ k. Rep k f) (sym is) here) all

-- a call that has its backup isn't bare
backed-paired : (f : CallState) (cause : Cause) (protected : Bool) → has_backup f ≡ true →
    fits_protected f cause protected ≡ true
backed-paired Asking cause protected e = absurd (cc e)
backed-paired Bare cause protected e = absurd (cc e)
backed-paired Pairing cause protected e = absurd (cc e)
backed-paired Blocked cause protected e = absurd (cc e)
backed-paired _ cause protected e = refl

-- Rep holds of each fibre that is reported of an LSP
module _ (Rep : Lsp → Fibre → Type 0) where
  -- What a rule makes of a call's state: it stands and keeps its backup where it did, and its cause and ticks fit.
  pub record Moves (c d : CallRec) : Type 0 where
    pub number : d.call ≡ c.call
    pub stands : is_standing_call c.state ≡ true → is_standing_call d.state ≡ true
    pub back : has_backup c.state ≡ true → (has_backup d.state ≡ true) × (d.back ≡ c.back)
    pub tidy : IsTidy c → IsTidy d
    pub told : ReportsAreOf Rep c → ReportsAreOf Rep d
    pub turned : c.state ≡ Turned → (d.state ≡ Turned) ⊎ (has_any d.work_reports ≡ false)
    pub guarded : c.state ≡ Guarded → (d.state ≡ Guarded) ⊎ (has_any d.work_reports ≡ true)

  pub moves-none : (c : CallRec) → Moves c c
  moves-none c = record {
    number = refl;
    stands = λ e. e;
    back = λ e. (e, refl);
    tidy = λ e. e;
    told = λ h. h;
    turned = λ h. inl h;
    guarded = λ h. inl h;
  }

  -- the second one leaves what is reported of the working LSP
  pub moves-then : (c d e : CallRec) → Moves c d → Moves d e → e.work_reports ≡ d.work_reports → Moves c e
  moves-then c d e first second same = record {
    number = second.number ∙ first.number;
    stands = λ h. second.stands (first.stands h);
    back = λ h. let b = first.back h in let a = second.back b.0 in (a.0, a.1 ∙ b.1);
    tidy = λ h. second.tidy (first.tidy h);
    told = λ h. second.told (first.told h);
    turned = λ h. elim (first.turned h) [
      | inl stays ↦ second.turned stays
      | inr none ↦ inr (subst (λ fibres. has_any fibres ≡ false) (sym same) none)
    ];
    guarded = λ h. elim (first.guarded h) [
      | inl stays ↦ second.guarded stays
      | inr some ↦ inr (subst (λ fibres. has_any fibres ≡ true) (sym same) some)
    ];
  }

  -- a state in which the call has its backup, with a cause that fits and no ticks
  to-backed : (c : CallRec) (f : CallState) (cause : Cause) → is_standing_call f ≡ true → has_backup f ≡ true →
      fits_cause f cause ≡ true → MayLeave c → Moves c (record c { state = f; cause = cause; ticks = 0 })
  to-backed c f cause stands backed fits may = record {
    number = refl;
    stands = λ e. stands;
    back = λ e. (backed, refl);
    tidy = λ e. record { cause = fits; ticks = refl; paired = backed-paired f cause c.protected backed };
    told = λ h. record { work = h.work; back = h.back };
    turned = λ h. inr (may.turned h);
    guarded = λ h. inr (may.guarded h);
  }

  pub to-guarded : (c : CallRec) → MayLeave c → Moves c (guarded c)
  to-guarded c may = to-backed c Guarded Unset refl refl refl may

  pub to-turning : (c : CallRec) → MayLeave c → Moves c (turning c)
  to-turning c may = to-backed c Turning Unset refl refl refl may

  pub to-turned : (c : CallRec) → MayLeave c → Moves c (turned c)
  to-turned c may = to-backed c Turned Unset refl refl refl may

  pub to-stuck : (c : CallRec) (cause : Cause) → is_unset cause ≡ false → MayLeave c → Moves c (stuck c cause)
  to-stuck c cause known may = to-backed c Stuck cause refl refl (ap not known) may

  -- a turned call has its backup, and so has a guarded one
  lone-never : {X : Type 0} (c : CallRec) (f : CallState) → has_backup f ≡ true → IsLone c → c.state ≡ f → X
  lone-never c f backed lone is = absurd (lone (subst (λ x. has_backup x ≡ true) (sym is) backed))

  pub to-bare : (c : CallRec) → IsLone c → c.protected ≡ false → Moves c (bare c)
  to-bare c lone plain = record {
    number = refl;
    stands = λ e. refl;
    back = λ e. absurd (lone e);
    tidy = λ e. record { cause = refl; ticks = refl; paired = ap not plain };
    told = λ h. record { work = h.work; back = h.back };
    turned = λ h. lone-never c Turned refl lone h;
    guarded = λ h. lone-never c Guarded refl lone h;
  }

  pub to-unbacked : (c : CallRec) (cause : Cause) → is_unset cause ≡ false → IsLone c → Moves c (unbacked c cause)
  to-unbacked c cause known lone = record {
    number = refl;
    stands = λ e. refl;
    back = λ e. absurd (lone e);
    tidy = λ e. record { cause = refl; ticks = refl; paired = rw known refl };
    told = λ h. record { work = h.work; back = tt };
    turned = λ h. lone-never c Turned refl lone h;
    guarded = λ h. lone-never c Guarded refl lone h;
  }

  pub to-pairing : (c : CallRec) (l : Lsp) → IsLone c → Moves c (pairing c l)
  to-pairing c l lone = record {
    number = refl;
    stands = λ e. refl;
    back = λ e. absurd (lone e);
    tidy = λ e. record { cause = refl; ticks = refl; paired = refl };
    told = λ h. record { work = h.work; back = tt };
    turned = λ h. lone-never c Turned refl lone h;
    guarded = λ h. lone-never c Guarded refl lone h;
  }

  pub to-blocked : (c : CallRec) (cause : Cause) → is_unset cause ≡ false → is_asking c.state ≡ true →
      Moves c (blocked c cause)
  to-blocked c cause known asking = record {
    number = refl;
    stands = λ e. absurd (asking-stands c.state asking e);
    back = λ e. absurd (asking-lone c.state asking e);
    tidy = λ e. record { cause = ap not known; ticks = refl; paired = refl };
    told = λ h. record { work = tt; back = h.back };
    turned = λ h. lone-never c Turned refl (asking-lone c.state asking) h;
    guarded = λ h. lone-never c Guarded refl (asking-lone c.state asking) h;
  }

  -- a tick more, where the call waits
  pub waits-more : (c : CallRec) → (is_turned c.state && not (has_any c.work_reports)) ≡ true →
      Moves c (record c { ticks = c.ticks + 1 })
  waits-more c waits = record {
    number = refl;
    stands = λ e. e;
    back = λ e. (e, refl);
    tidy = λ e. record { cause = e.cause; ticks = or_right (nat_eq (c.ticks + 1) 0) _ waits; paired = e.paired };
    told = λ h. record { work = h.work; back = h.back };
    turned = λ h. inl h;
    guarded = λ h. inl h;
  }

  -- A call that a rule puts in the place of this one: the same was asked for, and it has the same working LSP or none,
  -- where it is refused.
  pub record IsSameCall (c d : CallRec) : Type 0 where
    pub egress : d.egress ≡ c.egress
    pub protected : d.protected ≡ c.protected
    pub backup : d.backup ≡ c.backup
    pub work : (d.work ≡ c.work) ⊎ ((d.work ≡ None) × (is_asking c.state ≡ true))
    pub moves : Moves c d

  -- with another state, other reports or another backup alone
  pub revised-call : (c d : CallRec) → d.egress ≡ c.egress → d.protected ≡ c.protected → d.backup ≡ c.backup →
      d.work ≡ c.work → Moves c d → IsSameCall c d
  revised-call c d egress protected backup work moves =
      record { egress = egress; protected = protected; backup = backup; work = inl work; moves = moves }

  pub still : (c d e : CallRec) → IsSameCall c d → e.egress ≡ d.egress → e.protected ≡ d.protected →
      e.backup ≡ d.backup →
      e.work ≡ d.work → e.work_reports ≡ d.work_reports → Moves d e → IsSameCall c e
  still c d e same egress protected backup work reports moves = record {
    egress = egress ∙ same.egress;
    protected = protected ∙ same.protected;
    backup = backup ∙ same.backup;
    work = elim same.work [ inl is ↦ inl (work ∙ is) | inr is ↦ inr (work ∙ is.0, is.1) ];
    moves = moves-then c d e same.moves moves reports;
  }
