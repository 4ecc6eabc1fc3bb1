-- A retry turns the call or finds its backup busy, and a revert guards it.
use Rattle.std.proofs.Common.{◌≡◌, List, refl, sym, ap, ◌∙◌, subst, inl, inr}
use Rattle.std.specs.Prelude.{◌⊎◌, Some}
use Rattle.ason_base.specs.{Codes.busy_code, declared.calls.CallState.TheVariants.{Guarded, Turning, Stuck}, declared.calls.Cause.TheVariants.Code, declared.calls.Phase.TheVariants.{Held, Live}, declared.ids.Lsp.Lsp, declared.tables.CallRec.CallRec, declared.tables.Leg.Leg}
use Rattle.mesh_rules.specs.{Calls.{guarded, stuck, turning}, Changes.Answer, Legs.{find_leg, is_contended, is_held, is_in_use, leg_of}, Turns.{go_back, turn}}
use Rattle.mesh_nodes.proofs.Cases.{if_cases}
use Rattle.mesh_laws.specs.ActsLaw.{BackupIsBusy}
use Rattle.mesh_laws.proofs.{acts.Busy.backup-busy, acts.Puts.Puts}

-- a call whose backup is Held turns, or is stuck with a backup that is busy
pub held-turns : (legs : List Leg) (c : CallRec) (l : Lsp) (g : Leg) → c.back ≡ Some l → find_leg l legs ≡ Some g →
    g.phase ≡ Held →
    Puts c.call (λ d. (d.state ≡ Turning) ⊎ ((d.state ≡ Stuck) × BackupIsBusy legs c)) (turn legs c (leg_of c.back legs))
held-turns legs c l g named here held =
    let Goal : Answer → Type 0 =
    Puts c.call (λ d. (d.state ≡ Turning) ⊎ ((d.state ≡ Stuck) × BackupIsBusy legs c)) in
    subst (λ o. Goal (turn legs c o)) (sym (ap (λ o. leg_of o legs) named ∙ here))
    (if_cases Goal (is_held g.phase) _ _
    (λ e. if_cases Goal (is_contended legs g) _ _
    (λ busy. record {
      one = stuck c (Code busy_code);
      puts = refl;
      number = refl;
      holds = inr (refl, backup-busy legs c l g named here busy);
    })
    (λ free. record { one = turning c; puts = refl; number = refl; holds = inl refl }))
    (λ other. absurd (let is = ap is_held held in cc (is, other))))

-- a call whose backup is Live goes back
pub live-goes_back : (legs : List Leg) (c : CallRec) (l : Lsp) (g : Leg) → c.back ≡ Some l → find_leg l legs ≡ Some g →
    g.phase ≡ Live → Puts c.call (λ d. d.state ≡ Guarded) (go_back c (leg_of c.back legs))
live-goes_back legs c l g named here live =
    subst (λ o. Puts c.call (λ d. d.state ≡ Guarded) (go_back c o)) (sym (ap (λ o. leg_of o legs) named ∙ here))
    (if_cases (Puts c.call (λ d. d.state ≡ Guarded)) (is_in_use g.phase) _ _
    (λ e. record { one = guarded c; puts = refl; number = refl; holds = refl })
    (λ other. absurd (let is = ap is_in_use live in cc (is, other))))
