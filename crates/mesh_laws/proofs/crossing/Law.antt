-- Of two backups that cross on a link with one label, at most one is activated.
use Rattle.std.proofs.Common.{◌≡◌, Bool, true, false, refl, subst}
use Rattle.std.specs.Prelude.{◌&&◌}
use Rattle.ason_base.specs.Lsps.{same_lsp}
use Rattle.mesh_rules.specs.{Events.after, Legs.is_in_use, Machine.start}
use Rattle.mesh_nodes.proofs.LegList.{same_lsp-refl}
use Rattle.lsp_laws.specs.{HopLaw.HasOneLegEach, LabelLaw.NoBackupsCross}
use Rattle.lsp_laws.proofs.hops.HopLaws.{one_leg_each}
use Rattle.mesh_laws.proofs.sent.Run.{sound}

not-both : (a b : Bool) → (a ≡ true → b ≡ true → ⊥) → (a && b) ≡ false
not-both true true never = absurd (never refl refl)
not-both true false never = refl
not-both false b never = refl

-- the clause crossing
pub no_backups_cross : NoBackupsCross
no_backups_cross t events run n m f g h has_g has_h cross =
    not-both (is_in_use g.phase) (is_in_use h.phase)
    (λ one other. (sound t events run).1.crossing f (record { 0 = n }) (record { 0 = m }) g.lsp h.lsp g h differ
    (record { found = each (record { 0 = n }) g has_g; backup = cross.backups.0; in_use = one; fibre = cross.one })
    (record { found = each (record { 0 = m }) h has_h; backup = cross.backups.1; in_use = other; fibre = cross.other })
    cross.label)
  where
    each : HasOneLegEach (after t start events)
    each = one_leg_each t (after t start events) (sound t events run).1.facts

    differ : g.lsp ≡ h.lsp → ⊥
    differ same =
        let apart = cross.lsps in
        let test : same_lsp g.lsp h.lsp ≡ true = subst (λ k. same_lsp g.lsp k ≡ true) same (same_lsp-refl g.lsp) in
        cc (apart, test)
